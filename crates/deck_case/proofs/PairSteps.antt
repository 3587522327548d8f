-- The numbers of the sides of pairs, as the code reads them.
use Rattle.std.proofs.Common.{ℕ, ◌+◌, ◌<◌, ◌≡◌, sym, ap, subst, ◌∙◌, arith, List, length, get_or, map}
use Rattle.std.specs.List.{range_with_len}
use Rattle.std.proofs.lemmas.List.{get_or_default}
use Rattle.std.proofs.lemmas.List.FromFn.{get_or-map-range_with_len, length-map-range_with_len}
use Rattle.std.proofs.lemmas.Option.{slice_get_within}
use Rattle.decks.specs.Decks.{NamesQuantity}
use Rattle.decks.specs.declared.deck.Column.{Column}
use Rattle.decks.specs.declared.deck.Deck.{Deck}
use Rattle.decks.specs.declared.deck.Quantity.{Quantity}
use Rattle.decks.specs.declared.deck.Quantity.TheVariants.{Col, Upc, Row}
use Rattle.decks.specs.declared.deck.Row as rows
use Rattle.deck_case.specs.DeckCases.{before_column, before_row, side_number, side_place, upper_place}
use Rattle.decks.specs.Bounds.{default_column}
use Rattle.deck_case.specs.DeckPoints.{column_at, no_row, row_at}

pub named_column : (d : Deck) (q : Quantity) (j : ℕ) → NamesQuantity d q → q ≡ Col j → j < length d.columns
named_column d q j h e =
    let n : NamesQuantity d (Col j) = subst (NamesQuantity d) e h in
    slice_get_within d.columns j n.0 n.1

pub named_upper : (d : Deck) (q : Quantity) (j : ℕ) → NamesQuantity d q → q ≡ Upc j → j < length d.columns
named_upper d q j h e =
    let n : NamesQuantity d (Upc j) = subst (NamesQuantity d) e h in
    slice_get_within d.columns j n.0 n.1

pub named_row : (d : Deck) (q : Quantity) (i : ℕ) → NamesQuantity d q → q ≡ Row i → i < length d.rows
named_row d q i h e =
    let n : NamesQuantity d (Row i) = subst (NamesQuantity d) e h in
    slice_get_within d.rows i n.0 n.1

pub listed : (f : ℕ → ℕ) (numbers : List ℕ) (n i : ℕ) → numbers ≡ map f (range_with_len 0 n) → i < n → (i < length numbers) × (get_or numbers i 0 ≡ f i)
listed f numbers n i e h = (
  omega (arith, ap length e, length-map-range_with_len f 0 n),
  ap (λ l. get_or l i 0) e ∙ get_or-map-range_with_len f 0 n i i 0 h (omega arith),
)

pub column_number : (d : Deck) (q : Quantity) (j : ℕ) (columns : List ℕ) → NamesQuantity d q → q ≡ Col j → columns ≡ map (before_column d) (range_with_len 0 (length d.columns)) → get_or columns j 0 ≡ side_number d q
column_number d q j columns h e f = (listed (before_column d) columns (length d.columns) j f (named_column d q j h e)).1 ∙ ap (side_number d) (sym e)

pub upper_number : (d : Deck) (q : Quantity) (j place : ℕ) (firsts : List ℕ) (read : List Column) (e : Column) → NamesQuantity d q → q ≡ Upc j → firsts ≡ map (before_column d) (range_with_len 0 (length d.columns)) → read ≡ d.columns → place ≡ upper_place (get_or read j e)
    → get_or firsts j 0 + place ≡ side_number d q
upper_number d q j place firsts read e h same f g p =
    let within = named_upper d q j h same in
    let first = (listed (before_column d) firsts (length d.columns) j f within).1 in
    let column : get_or read j e ≡ column_at d j = ap (λ l. get_or l j e) g ∙ get_or_default d.columns j e default_column within in
    ap (λ n. n + place) first ∙ ap (λ n. before_column d j + n) (p ∙ ap upper_place column) ∙ ap (side_number d) (sym same)

pub row_number : (d : Deck) (q : Quantity) (i place : ℕ) (firsts : List ℕ) (read : List rows.Row) (e : rows.Row) → NamesQuantity d q → q ≡ Row i → firsts ≡ map (before_row d) (range_with_len 0 (length d.rows)) → read ≡ d.rows → place ≡ side_place (get_or read i e) → get_or firsts i 0 + place ≡ side_number d q
row_number d q i place firsts read e h same f g p =
    let within = named_row d q i h same in
    let first = (listed (before_row d) firsts (length d.rows) i f within).1 in
    let row : get_or read i e ≡ row_at d i = ap (λ l. get_or l i e) g ∙ get_or_default d.rows i e no_row within in
    ap (λ n. n + place) first ∙ ap (λ n. before_row d i + n) (p ∙ ap side_place row) ∙ ap (side_number d) (sym same)
