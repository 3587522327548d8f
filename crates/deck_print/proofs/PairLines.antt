-- The lines of PAIRS: they are right, and give the pairs in their order.
use Rattle.std.proofs.Common.{ℕ, ◌+◌, ◌^◌, ◌<◌, ◌≤◌, ◌≡◌, true, false, not, List, [], ◌∷◌, ◌++◌, length, map, Some, None, refl, sym, ap, subst, ◌∙◌, arith}
use Rattle.std.specs.Prelude.{codes, slice_get, unwrap_or}
use Rattle.std.specs.List.{AllByRecursion}
use Rattle.std.specs.Str.{bytes_eq}
use Rattle.std.proofs.lemmas.Bool.{and_from, lt-leb, not_from_false, or_from}
use Rattle.std.proofs.lemmas.List.{length-append, length-map, map-append}
use Rattle.std.proofs.lemmas.Option.{same_Some, slice_get_within}
use Rattle.lp_base.specs.declared.limits.TheConstants.{MOST_PAIRS}
use Rattle.mps_lex.specs.Kinds.{Name}
use Rattle.mps_lex.specs.Lines.{Line}
use Rattle.decks.specs.Bounds.{column_bounds, settings_in}
use Rattle.decks.specs.Decks.{NamesQuantity, is_inequality, zero}
use Rattle.decks.specs.declared.deck.Column.{Column}
use Rattle.decks.specs.declared.deck.Deck.{Deck}
use Rattle.decks.specs.declared.deck.Quantity.TheVariants.{Col, Row}
use Rattle.decks.specs.declared.deck.Row as made
use Rattle.decks.specs.declared.fault.DeckWhy.TheVariants.{NameTwice, PairKind, PairLower, TooMany, UnknownName}
use Rattle.decks.specs.Names.{has, place}
use Rattle.decks.specs.Numbers.{is_zero}
use Rattle.decks.specs.Spelling.{column_names, deck_pairs, field, number_of_row, pair_names, pair_of as spelled_pair, row_named, rows_of as lined_rows}
use Rattle.decks.specs.Faults.{◌or◌, column_quantity_fault, fault_if, is_free_from_zero, many_pairs_fault, pair_fault, row_quantity_fault}
use Rattle.decks.proofs.KeptParts.{all_append, get_map, get_mapped}
use Rattle.decks.proofs.KeptSlices.{IsRightBy, pairs_fault}
use Rattle.deck_print.specs.Printed.{AreDistinct, NamedColumn, NamedRow, column_name, column_of, name_at, pair_name, pair_of, pair_words, pairs_words, row_name, row_of}
use Rattle.deck_print.proofs.ColumnLines.{RowThere, name_there, row_found, row_there}
use Rattle.deck_print.proofs.Lined.{all_said, said}
use Rattle.deck_print.proofs.Names.{has_at, place_at}
use Rattle.deck_print.proofs.NumberedNames.{numbered_apart}
use Rattle.deck_print.proofs.RowLines.{numbered}

-- ---- names of pairs

none_has : (ns : List Name) (n : Name) → AllByRecursion (λ m. bytes_eq n m ≡ false) ns → has ns n ≡ false
none_has [] n h = refl
none_has (m ∷ ns) n h = or_from (bytes_eq n m) (has ns n) h.0 (none_has ns n h.1)

-- no name of a later pair, of which there are so few
abbrev AreEarlier : ℕ → List Name → Type 0
AreEarlier k ns = (i : ℕ) → k ≤ i → i < 2 ^ 60 → AllByRecursion (λ m. bytes_eq (pair_name i) m ≡ false) ns

abbrev first_field : Line → Name
first_field l = field 0 l.fields

earlier_push : (k n : ℕ) (ws : List Name) (before : List Line) → k < 2 ^ 60 → AreEarlier k (pair_names before) → AreEarlier (k + 1) (pair_names (before ++ said n (pair_name k ∷ ws) ∷ []))
earlier_push k n ws before few h i low high =
    subst (λ ns. AllByRecursion (λ m. bytes_eq (pair_name i) m ≡ false) ns) (sym (map-append first_field before (said n (pair_name k ∷ ws) ∷ [])))
    (all_append (λ m. bytes_eq (pair_name i) m ≡ false) (pair_names before) (pair_name k ∷ []) (h i (omega (arith, low)) high) (numbered_apart 112 i k high few (λ e. omega (arith, e, low)), tt))

-- ---- a pair of a row and a column

pub record IsGoodPair (rows : List NamedRow) (cs : List Name) (bounds : Name → Column) (q : ℕ × ℕ) : Type 0 where
  pub row : RowThere rows q.0
  pub inequality : is_inequality row.row.1.letter ≡ true
  pub column : q.1 < length cs
  pub from_zero : is_free_from_zero (bounds (name_at cs q.1)) ≡ true

row_fine : (rows : List NamedRow) (cs : List Name) (bounds : Name → Column) (q : ℕ × ℕ) → AreDistinct (map row_name rows) → IsGoodPair rows cs bounds q → row_quantity_fault (row_named (numbered 0 rows) (name_at (map row_name rows) q.0)) ≡ None
row_fine rows cs bounds q d h = ap row_quantity_fault (row_found rows q.0 h.row d) ∙ ap (λ t. fault_if (not t) PairKind) h.inequality

column_fine : (rows : List NamedRow) (cs : List Name) (bounds : Name → Column) (q : ℕ × ℕ) → IsGoodPair rows cs bounds q → column_quantity_fault cs bounds (name_at cs q.1) ≡ None
column_fine rows cs bounds q h =
    let n = name_at cs q.1 in
    ap (λ t. fault_if (not t) UnknownName or fault_if (not (is_free_from_zero (bounds n))) PairLower) (has_at cs n q.1 (name_there cs q.1 h.column))
    ∙ ap (λ t. fault_if (not t) PairLower) h.from_zero

pair_fine : (rows : List NamedRow) (cs : List Name) (bounds : Name → Column) (pairs : List Name) (k : ℕ) (q : ℕ × ℕ) → AreDistinct (map row_name rows) → IsGoodPair rows cs bounds q → has pairs (pair_name k) ≡ false → length pairs < MOST_PAIRS
    → pair_fault (numbered 0 rows) cs bounds pairs (pair_words (map row_name rows) cs k q) ≡ None
pair_fine rows cs bounds pairs k q d h new few =
    let a = row_quantity_fault (row_named (numbered 0 rows) (name_at (map row_name rows) q.0)) in
    let b = column_quantity_fault cs bounds (name_at cs q.1) in
    ap (λ t. fault_if t NameTwice or ((a or b) or many_pairs_fault pairs)) new
    ∙ ap (λ x. (x or b) or many_pairs_fault pairs) (row_fine rows cs bounds q d h)
    ∙ ap (λ x. x or many_pairs_fault pairs) (column_fine rows cs bounds q h)
    ∙ ap (λ t. fault_if t TooMany) (lt-leb MOST_PAIRS (length pairs) few)

-- ---- all pairs

abbrev pub pair_lines : List NamedRow → List Name → ℕ → ℕ → List (ℕ × ℕ) → List Line
pair_lines rows cs n k qs = all_said n (pairs_words (map row_name rows) cs k qs)

-- what stays the same over the lines
pub record ArePairsOf (row_lines column_lines bound_lines : List Line) (rows : List NamedRow) (cs : List Name) : Type 0 where
  pub rows_are : lined_rows row_lines ≡ numbered 0 rows
  pub columns_are : column_names column_lines ≡ cs
  pub row_names : AreDistinct (map row_name rows)

pub pairs_right : (row_lines column_lines bound_lines before : List Line) (rows : List NamedRow) (cs : List Name) (qs : List (ℕ × ℕ)) (k n : ℕ) → ArePairsOf row_lines column_lines bound_lines rows cs → length before ≡ k → k + length qs ≤ MOST_PAIRS
    → AreEarlier k (pair_names before) → AllByRecursion (IsGoodPair rows cs (column_bounds (settings_in bound_lines))) qs → IsRightBy (pairs_fault row_lines column_lines bound_lines) before (pair_lines rows cs n k qs)
pairs_right row_lines column_lines bound_lines before rows cs [] k n a here few earlier h = tt
pairs_right row_lines column_lines bound_lines before rows cs (q ∷ qs) k n a here few earlier h =
    let ws = pair_words (map row_name rows) cs k q in
    let bounds = column_bounds (settings_in bound_lines) in
    let count : length (pair_names before) ≡ length before = length-map before first_field in (
      (λ i. pair_fault (a.rows_are i) (a.columns_are i) bounds (pair_names before) ws)
          ∙ pair_fine rows cs bounds (pair_names before) k q a.row_names h.0 (none_has (pair_names before) (pair_name k) (earlier k (omega arith) (omega (arith, few)))) (omega (arith, count, here, few)),
      pairs_right row_lines column_lines bound_lines (before ++ said n ws ∷ []) rows cs qs (k + 1) (n + 1) a (omega (arith, here, length-append before (said n ws ∷ []))) (omega (arith, few))
          (earlier_push k n (codes "ROW" ∷ name_at (map row_name rows) q.0 ∷ codes "COL" ∷ name_at cs q.1 ∷ []) before (omega (arith, few)) earlier) h.1,
    )

pub none_earlier : AreEarlier 0 []
none_earlier i low high = tt

one_again : (rows : List NamedRow) (cs : List Name) (bounds : Name → Column) (k : ℕ) (q : ℕ × ℕ) → AreDistinct (map row_name rows) → AreDistinct cs → IsGoodPair rows cs bounds q
    → spelled_pair (numbered 0 rows) cs (pair_words (map row_name rows) cs k q) ≡ pair_of q
one_again rows cs bounds k q dr dc h =
    let row : unwrap_or (number_of_row (row_named (numbered 0 rows) (name_at (map row_name rows) q.0))) 0 ≡ q.0 = ap (λ o. unwrap_or (number_of_row o) 0) (row_found rows q.0 h.row dr) in
    let column : place cs (name_at cs q.1) ≡ q.1 = place_at cs q.1 (name_at cs q.1) dc (name_there cs q.1 h.column) in
    λ i. record { a = Row (row i); b = Col (column i) }

pub pairs_again : (rows : List NamedRow) (cs : List Name) (bounds : Name → Column) (n k : ℕ) (qs : List (ℕ × ℕ)) → AreDistinct (map row_name rows) → AreDistinct cs → AllByRecursion (IsGoodPair rows cs bounds) qs
    → deck_pairs (numbered 0 rows) cs (pair_lines rows cs n k qs) ≡ map pair_of qs
pairs_again rows cs bounds n k [] dr dc h = refl
pairs_again rows cs bounds n k (q ∷ qs) dr dc h = λ i. one_again rows cs bounds k q dr dc h.0 i ∷ pairs_again rows cs bounds (n + 1) (k + 1) qs dr dc h.1 i

-- ---- from the facts of a deck

is_from_zero : (c : Column) → c.fixed ≡ false → c.lower.value ≡ Some zero → is_free_from_zero c ≡ true
is_from_zero c f v = and_from (not c.fixed) (is_zero c.lower.value) (not_from_false c.fixed f) (ap is_zero v)

-- a pair that the deck names is good
pub good_pair : (rows : List NamedRow) (columns : List NamedColumn) (bounds : Name → Column) (d : Deck) (q : ℕ × ℕ) → d.rows ≡ map row_of rows → d.columns ≡ map column_of columns → map bounds (map column_name columns) ≡ map column_of columns
    → NamesQuantity d (Row q.0) → NamesQuantity d (Col q.1) → IsGoodPair rows (map column_name columns) bounds q
good_pair rows columns bounds d q er ec eb r c =
    let x = get_mapped row_of rows q.0 r.0 (ap (λ xs. slice_get xs q.0) (sym er) ∙ r.1) in
    let y = get_mapped column_of columns q.1 c.0 (ap (λ xs. slice_get xs q.1) (sym ec) ∙ c.1) in
    let within : q.0 < length rows = slice_get_within rows q.0 x.0 x.1 in
    let there = row_there rows q.0 within in
    let same : there.row ≡ x.0 = same_Some there.row x.0 (sym there.there ∙ x.1) in
    let count : length (map column_name columns) ≡ length columns = length-map columns column_name in
    let inside : q.1 < length (map column_name columns) = omega (arith, count, slice_get_within columns q.1 y.0 y.1) in
    let n = name_at (map column_name columns) q.1 in
    let bound : bounds n ≡ c.0 =
    same_Some (bounds n) c.0 (sym (get_map bounds (map column_name columns) q.1 n (name_there (map column_name columns) q.1 inside)) ∙ ap (λ xs. slice_get xs q.1) (eb ∙ sym ec) ∙ c.1) in
    record {
      row = there;
      inequality = ap (λ (z : NamedRow). is_inequality z.1.letter) same ∙ ap (λ (z : made.Row). is_inequality z.letter) x.2 ∙ r.2;
      column = inside;
      from_zero = ap is_free_from_zero bound ∙ is_from_zero c.0 c.2 c.3;
    }
