-- Pairs speak of quantities of the deck, and there are not too many.
use Rattle.std.proofs.Common.{ℕ, ◌≤◌, ◌<◌, ◌≡◌, ℤ, pos, ◌≤ℤ◌, Bool, true, false, not, cond, List, [], ◌∷◌, ◌++◌, length, map, Option, Some, None, refl, sym, ap, subst, ◌∙◌, leb, arith}
use Prim.Native.Nat.{◌∣◌}
use Rattle.std.proofs.lemmas.Bool.{leb-false, and_parts, not-true}
use Rattle.std.proofs.lemmas.Bool.Decides.{Decides-int_eq}
use Rattle.std.proofs.lemmas.Int.{ints}
use Rattle.std.proofs.lemmas.List.{length-append, length-map}
use Rattle.std.proofs.lemmas.Nat.Gcd.{dvd_refl, dvd-zero, le_of_dvd}
use Rattle.std.specs.Prelude.{IfSome, is_some, slice_get, unsigned_abs, unwrap_or}
use Rattle.std.specs.List.{AllByRecursion}
use Rattle.lp_nums.specs.Fractions.{Fraction}
use Rattle.mps_lex.specs.Kinds.{Name}
use Rattle.mps_lex.specs.Lines.{Line}
use Rattle.decks.specs.declared.deck.Deck.{Deck}
use Rattle.decks.specs.declared.deck.Column.{Column}
use Rattle.decks.specs.declared.deck.Row as made
use Rattle.decks.specs.declared.deck.PairLine.{PairLine}
use Rattle.decks.specs.declared.deck.Letter.{Letter}
use Rattle.decks.specs.declared.deck.Letter.TheVariants.{N, E, L, G}
use Rattle.decks.specs.declared.deck.Quantity.TheVariants.{Col, Upc, Row}
use Rattle.decks.specs.declared.fault.DeckWhy.TheVariants.{UnknownName, PairKind, PairLower, PairUpper, TooMany}
use Rattle.decks.specs.Decks.{IsDeckNumber, NamesQuantity, is_inequality, zero}
use Rattle.decks.specs.Names.{has, place}
use Rattle.decks.specs.Numbers.{is_zero}
use Rattle.decks.specs.Bounds.{Setting, settings_in, column_bounds}
use Rattle.decks.specs.Spelling.{field, is_n, RowLine, kept, rows_of, row_named, number_of_row, column_names, RowValue, deck_row, pair_names, is_col, is_upc, quantity_of, pair_of, deck_pairs}
use Rattle.decks.specs.Faults.{◌or◌, fault_if, is_free_from_zero, column_quantity_fault, has_upper, upper_quantity_fault, row_quantity_fault, quantity_fault, pair_front_fault, many_pairs_fault, pair_fault}
use Rattle.decks.proofs.KeptParts.{first_none, second_none, if_none, unless_none, get_map, all_map}
use Rattle.decks.proofs.KeptNames.{get_place}
use Rattle.decks.proofs.KeptRows.{RowsKept, PlacedAs, row_placed}
use Rattle.decks.proofs.KeptBounds.{SettingsKept, column_is}
use Rattle.decks.proofs.KeptSlices.{IsRightBy, pairs_fault, by_lines, each_line}

-- ---- 0 in lowest terms

one_of : (d : ℤ) → pos 1 ≤ℤ d → unsigned_abs d ≤ 1 → d ≡ pos 1
one_of d some few = omega (arith, ints)

zero_is : (f : Fraction) → IsDeckNumber f → f.num ≡ pos 0 → f ≡ zero
zero_is f h e =
    let none : unsigned_abs f.den ∣ unsigned_abs f.num = subst (λ (n : ℤ). unsigned_abs f.den ∣ unsigned_abs n) (sym e) (dvd-zero (unsigned_abs f.den)) in
    let few : unsigned_abs f.den ≤ 1 = le_of_dvd (omega arith) (h.lowest.lowest.2 (unsigned_abs f.den) none (dvd_refl (unsigned_abs f.den))) in
    let den : f.den ≡ pos 1 = one_of f.den h.lowest.positive few in
    λ i. record { num = e i; den = den i }

zero_end : (o : Option Fraction) → IfSome o IsDeckNumber → is_zero o ≡ true → o ≡ Some zero
zero_end None h e = absurd cc
zero_end (Some f) h e = ap (λ (x : Fraction). Some x) (zero_is f h ((Decides-int_eq f.num (pos 0)).0 e))

-- ---- a quantity

-- the deck has these rows and columns
pub record IsMade (d : Deck) (rows : List RowLine) (columns : List Name) (ss : List Setting) (rights ranges : List RowValue) : Type 0 where
  pub rows_are : d.rows ≡ map (deck_row rights ranges) (kept rows)
  pub columns_are : d.columns ≡ map (column_bounds ss) columns

column_named : (d : Deck) (rows : List RowLine) (columns : List Name) (ss : List Setting) (rights ranges : List RowValue) (n : Name) → IsMade d rows columns ss rights ranges → SettingsKept ss → column_quantity_fault columns (column_bounds ss) n ≡ None → NamesQuantity d (Col (place columns n))
column_named d rows columns ss rights ranges n m h e =
    let unknown = fault_if (not (has columns n)) UnknownName in
    let lower = fault_if (not (is_free_from_zero (column_bounds ss n))) PairLower in
    let stands : has columns n ≡ true = unless_none (has columns n) UnknownName (first_none unknown lower e) in
    let open_end = and_parts (not (column_bounds ss n).fixed) (is_zero (column_bounds ss n).lower.value) (unless_none (is_free_from_zero (column_bounds ss n)) PairLower (second_none unknown lower e)) in
    let here = ap (λ (x : List Column). slice_get x (place columns n)) m.columns_are ∙ get_map (column_bounds ss) columns (place columns n) n (get_place columns n stands) in
    (column_bounds ss n, here, not-true _ open_end.0, zero_end (column_bounds ss n).lower.value (column_is ss h n).lower open_end.1)

some_end : (o : Option Fraction) → is_some o ≡ true → (v : Fraction) × (o ≡ Some v)
some_end None e = absurd cc
some_end (Some v) e = (v, refl)

upper_named : (d : Deck) (rows : List RowLine) (columns : List Name) (ss : List Setting) (rights ranges : List RowValue) (n : Name) → IsMade d rows columns ss rights ranges → upper_quantity_fault columns (column_bounds ss) n ≡ None → NamesQuantity d (Upc (place columns n))
upper_named d rows columns ss rights ranges n m e =
    let unknown = fault_if (not (has columns n)) UnknownName in
    let upper = fault_if (not (has_upper (column_bounds ss n))) PairUpper in
    let stands : has columns n ≡ true = unless_none (has columns n) UnknownName (first_none unknown upper e) in
    let open_end = and_parts (not (column_bounds ss n).fixed) (is_some (column_bounds ss n).upper.value) (unless_none (has_upper (column_bounds ss n)) PairUpper (second_none unknown upper e)) in
    let here = ap (λ (x : List Column). slice_get x (place columns n)) m.columns_are ∙ get_map (column_bounds ss) columns (place columns n) n (get_place columns n stands) in
    (column_bounds ss n, here, not-true _ open_end.0, some_end (column_bounds ss n).upper.value open_end.1)

not_dropped : (l : Letter) → is_n l ≡ true → is_inequality l ≡ true → ⊥
not_dropped N e f = absurd cc
not_dropped E e f = absurd cc
not_dropped L e f = absurd cc
not_dropped G e f = absurd cc

row_at : (d : Deck) (rows : List RowLine) (columns : List Name) (ss : List Setting) (rights ranges : List RowValue) (r : RowLine) (o : Option ℕ) → IsMade d rows columns ss rights ranges → is_inequality r.letter ≡ true → PlacedAs (kept rows) r o → NamesQuantity d (Row (unwrap_or o 0))
row_at d rows columns ss rights ranges r None m e p = absurd (not_dropped r.letter p e)
row_at d rows columns ss rights ranges r (Some k) m e p =
    (deck_row rights ranges r, ap (λ (x : List made.Row). slice_get x k) m.rows_are ∙ get_map (deck_row rights ranges) (kept rows) k r p, e)

named_row : (d : Deck) (rows : List RowLine) (columns : List Name) (ss : List Setting) (rights ranges : List RowValue) (n : Name) (o : Option RowLine) → IsMade d rows columns ss rights ranges → RowsKept rows → row_named rows n ≡ o → row_quantity_fault o ≡ None
    → NamesQuantity d (Row (unwrap_or (number_of_row o) 0))
named_row d rows columns ss rights ranges n None m h q e = absurd cc
named_row d rows columns ss rights ranges n (Some r) m h q e = row_at d rows columns ss rights ranges r r.number m (unless_none (is_inequality r.letter) PairKind e) (row_placed rows n r h q).0

quantity_by : (d : Deck) (rows : List RowLine) (columns : List Name) (ss : List Setting) (rights ranges : List RowValue) (b u : Bool) (n : Name) → IsMade d rows columns ss rights ranges → RowsKept rows → SettingsKept ss
    → cond b (column_quantity_fault columns (column_bounds ss) n) (cond u (upper_quantity_fault columns (column_bounds ss) n) (row_quantity_fault (row_named rows n))) ≡ None
    → NamesQuantity d (cond b (Col (place columns n)) (cond u (Upc (place columns n)) (Row (unwrap_or (number_of_row (row_named rows n)) 0))))
quantity_by d rows columns ss rights ranges true u n m h k e = column_named d rows columns ss rights ranges n m k e
quantity_by d rows columns ss rights ranges false true n m h k e = upper_named d rows columns ss rights ranges n m e
quantity_by d rows columns ss rights ranges false false n m h k e = named_row d rows columns ss rights ranges n (row_named rows n) m h refl e

pub quantity_named : (d : Deck) (rows : List RowLine) (columns : List Name) (ss : List Setting) (rights ranges : List RowValue) (kind n : Name) → IsMade d rows columns ss rights ranges → RowsKept rows → SettingsKept ss
    → quantity_fault rows columns (column_bounds ss) kind n ≡ None → NamesQuantity d (quantity_of rows columns kind n)
quantity_named d rows columns ss rights ranges kind n m h k e = quantity_by d rows columns ss rights ranges (is_col kind) (is_upc kind) n m h k e

-- ---- a line

record IsPairRight (rows : List RowLine) (columns : List Name) (ss : List Setting) (fs : List Name) : Type 0 where
  pub first : quantity_fault rows columns (column_bounds ss) (field 1 fs) (field 2 fs) ≡ None
  pub second : quantity_fault rows columns (column_bounds ss) (field 3 fs) (field 4 fs) ≡ None

record IsPairLine (rows : List RowLine) (columns : List Name) (ss : List Setting) (pairs fs : List Name) : Type 0 where
  pub right : IsPairRight rows columns ss fs
  pub few : length pairs < 512

pair_line : (rows : List RowLine) (columns : List Name) (ss : List Setting) (pairs fs : List Name) → pair_fault rows columns (column_bounds ss) pairs fs ≡ None → IsPairLine rows columns ss pairs fs
pair_line rows columns ss pairs [] e = absurd cc
pair_line rows columns ss pairs (p ∷ []) e = absurd cc
pair_line rows columns ss pairs (p ∷ k ∷ []) e = absurd cc
pair_line rows columns ss pairs (p ∷ k ∷ a ∷ []) e = absurd cc
pair_line rows columns ss pairs (p ∷ k ∷ a ∷ l ∷ []) e = absurd cc
pair_line rows columns ss pairs (p ∷ k ∷ a ∷ l ∷ b ∷ []) e =
    let front = pair_front_fault pairs p k l in
    let one = quantity_fault rows columns (column_bounds ss) k a in
    let two = quantity_fault rows columns (column_bounds ss) l b in
    let many = many_pairs_fault pairs in
    let after = second_none front ((one or two) or many) e in
    let both = first_none (one or two) many after in
    record {
      right = record { first = first_none one two both; second = second_none one two both };
      few = leb-false 512 (length pairs) (if_none (leb 512 (length pairs)) TooMany (second_none (one or two) many after));
    }
pair_line rows columns ss pairs (p ∷ k ∷ a ∷ l ∷ b ∷ c ∷ fs) e = absurd cc

-- ---- the lines

pub few_pairs : (rows columns bounds ls : List Line) → IsRightBy (pairs_fault rows columns bounds) [] ls → length ls ≤ 512
few_pairs rows columns bounds ls h = by_lines (pairs_fault rows columns bounds) (λ ps. length ps ≤ 512) one [] ls (omega arith) h
  where
    one : (before : List Line) (l : Line) → length before ≤ 512 → pairs_fault rows columns bounds before l.fields ≡ None → length (before ++ l ∷ []) ≤ 512
    one before l few e =
        let line = pair_line (rows_of rows) (column_names columns) (settings_in bounds) (pair_names before) l.fields e in
        omega (arith, line.few, length-append before (l ∷ []), length-map before (λ (x : Line). field 0 x.fields))

abbrev pub IsPair : Deck → PairLine → Type 0
IsPair d p = NamesQuantity d p.a × NamesQuantity d p.b

pub pairs_are : (d : Deck) (rows columns bounds ls : List Line) (rights ranges : List RowValue) → IsMade d (rows_of rows) (column_names columns) (settings_in bounds) rights ranges → RowsKept (rows_of rows) → SettingsKept (settings_in bounds)
    → IsRightBy (pairs_fault rows columns bounds) [] ls → AllByRecursion (IsPair d) (deck_pairs (rows_of rows) (column_names columns) ls)
pairs_are d rows columns bounds ls rights ranges m h k right =
    let rs = rows_of rows in
    let cs = column_names columns in
    let ss = settings_in bounds in
    all_map (λ (l : Line). IsPairRight rs cs ss l.fields) (IsPair d) (λ (l : Line). pair_of rs cs l.fields)
    (λ l q. (
      quantity_named d rs cs ss rights ranges (field 1 l.fields) (field 2 l.fields) m h k q.first,
      quantity_named d rs cs ss rights ranges (field 3 l.fields) (field 4 l.fields) m h k q.second,
    ))
    ls (each_line (pairs_fault rows columns bounds) (IsPairRight rs cs ss) (λ before fs e. (pair_line rs cs ss (pair_names before) fs e).right) [] ls right)
