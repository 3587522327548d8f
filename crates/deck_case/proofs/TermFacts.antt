-- The facts of the terms that a deck's entries give.
use Rattle.std.proofs.Common.{ℕ, ◌<◌, ◌≡◌, ◌≢◌, ap, subst, ◌∙◌, inl, inr, arith, ℤ, pos, List, [], ◌++◌, length, get_or, map, filter, true, Some, None, Option, All, slice_get}
use Rattle.std.specs.Prelude.{◌==◌, IsTrue, IfSome, unsigned_abs}
use Rattle.std.specs.List.{range_with_len}
use Rattle.std.specs.Option.{option_to_list}
use Rattle.std.specs.Ordering.{int_eq}
use Rattle.std.proofs.lemmas.Bool.{not-true, both_ways, cases_eq}
use Rattle.std.proofs.lemmas.Bool.Decides.{Decides-int_eq}
use Rattle.std.proofs.lemmas.Int.{ints}
use Rattle.std.proofs.lemmas.List.{get_or_read}
use Rattle.std.proofs.lemmas.List.Elements.{All-nil, All-cons, All-head, All-tail, All-append, All-filter, All-map, filter_passes}
use Rattle.std.proofs.lemmas.List.FromFn.{get_or-map-range_with_len, length-map-range_with_len}
use Rattle.std.proofs.lemmas.Option.{slice_get_within, get_or_from_slice_get}
use Rattle.lp_base.specs.Ascending.{ascends_by, number_of}
use Rattle.lp_nums.specs.Fractions.{Fraction}
use Rattle.decks.specs.Decks.{IsDeck, IsDeckNumber, IsRow, entries_of, entry_column}
use Rattle.decks.specs.declared.deck.Deck.{Deck}
use Rattle.decks.specs.declared.deck.Entry.{Entry}
use Rattle.decks.specs.declared.deck.Row.{Row}
use Rattle.deck_case.specs.CaseParts.{is_nonzero, numbers_of, terms_of}
use Rattle.deck_case.specs.Multipliers.{times}
use Rattle.deck_case.specs.Steps.{IsClearedBy}
use Rattle.deck_case.proofs.MultiplierSteps.{All-right}
use Rattle.deck_case.proofs.Rising.{ascends-filter, ascends-map}
use Rattle.deck_case.proofs.Wholes.{times_size}

-- ---- terms

pub terms_ascend : (m : ℕ) (es : List Entry) → IsTrue (ascends_by entry_column es) → IsTrue (ascends_by number_of (terms_of m es))
terms_ascend m es h = ascends-map number_of (λ e. (e.column, times m e.value)) (filter is_nonzero es) ∙ ascends-filter entry_column is_nonzero es h

pub terms_named : (m n : ℕ) (es : List Entry) → All (λ e. e.column < n) es → All (λ t. t.0 < n) (terms_of m es)
terms_named m n es h = All-map (λ t. t.0 < n) (λ (e : Entry). (e.column, times m e.value)) (filter is_nonzero es) (All-filter is_nonzero (λ e. e.column < n) es h)

nonzero_value : (e : Entry) → is_nonzero e ≡ true → e.value.num ≢ pos 0
nonzero_value e h z = both_ways (int_eq e.value.num (pos 0)) (not-true (int_eq e.value.num (pos 0)) h) ((Decides-int_eq e.value.num (pos 0)).1 z)

some_size : (z : ℤ) → z ≢ pos 0 → 0 < unsigned_abs z
some_size z h =
    elim (cases_eq (unsigned_abs z) 0) [
      | inl none ↦ absurd (h (omega (arith, ints, none)))
      | inr some ↦ omega arith
    ]

times_nonzero : (m : ℕ) (f : Fraction) → 0 < m → IsClearedBy m f → f.num ≢ pos 0 → times m f ≢ pos 0
times_nonzero m f some c h z =
    let size = times_size m f some c.positive c.divides in
    let front = some_size f.num h in
    absurd (omega (arith, size, front, ap unsigned_abs z))

pub terms_nonzero : (m : ℕ) (es : List Entry) → 0 < m → All (λ (e : Entry). IsClearedBy m e.value) es → All (λ t. t.1 ≢ pos 0) (terms_of m es)
terms_nonzero m es some h =
    All-map (λ t. t.1 ≢ pos 0) (λ (e : Entry). (e.column, times m e.value)) (filter is_nonzero es)
    (λ i d l.
    let e = get_or (filter is_nonzero es) i d in
    times_nonzero m e.value some (All-filter is_nonzero (λ (x : Entry). IsClearedBy m x.value) es h i d l) (nonzero_value e (filter_passes is_nonzero es i d l)))

-- ---- the numbers of a row

pub without_range : (b : Fraction) (range : Option Fraction) (es : List Entry) → All IsDeckNumber (numbers_of b range es) → All IsDeckNumber (numbers_of b None es)
without_range b range es h =
    let front = option_to_list range in
    let values = map (λ e. e.value) es in
    All-cons IsDeckNumber b values (All-head IsDeckNumber b (front ++ values) h) (All-right IsDeckNumber front values (All-tail IsDeckNumber b (front ++ values) h))

range_listed : (range : Option Fraction) → IfSome range IsDeckNumber → All IsDeckNumber (option_to_list range)
range_listed None h = All-nil IsDeckNumber
range_listed (Some r) h = All-cons IsDeckNumber r [] h (All-nil IsDeckNumber)

pub row_numbers : (d : Deck) (k : ℕ) (r : Row) → IsDeck d → slice_get d.rows k ≡ Some r → All IsDeckNumber (numbers_of r.rhs r.range (entries_of d.entries k))
row_numbers d k r h e =
    let within = slice_get_within d.rows k r e in
    let is_row = subst IsRow (get_or_from_slice_get d.rows k r r e) (h.rows k r within) in
    let values : All IsDeckNumber (map (λ (x : Entry). x.value) (entries_of d.entries k)) = All-map IsDeckNumber (λ (x : Entry). x.value) (entries_of d.entries k) (All-filter (λ x. x.row == k) (λ (x : Entry). IsDeckNumber x.value) d.entries h.entry_values) in
    All-cons IsDeckNumber r.rhs (option_to_list r.range ++ map (λ (x : Entry). x.value) (entries_of d.entries k)) is_row.right_side
    (All-append IsDeckNumber (option_to_list r.range) (map (λ (x : Entry). x.value) (entries_of d.entries k)) (range_listed r.range is_row.range) values)

pub entries_named : (d : Deck) (k : ℕ) → IsDeck d → All (λ (e : Entry). e.column < length d.columns) (entries_of d.entries k)
entries_named d k h = All-filter (λ x. x.row == k) (λ (e : Entry). e.column < length d.columns) d.entries (λ i e l. (h.entries_named i e l).0)

-- ---- the lists of the code

pub list_length : (d : Deck) (lists : List (List Entry)) → lists ≡ map (entries_of d.entries) (range_with_len 0 (length d.rows)) → length lists ≡ length d.rows
list_length d lists e = ap length e ∙ length-map-range_with_len (entries_of d.entries) 0 (length d.rows)

pub list_read : (d : Deck) (lists : List (List Entry)) (k : ℕ) (r : List Entry) → lists ≡ map (entries_of d.entries) (range_with_len 0 (length d.rows)) → k < length d.rows → r ≡ get_or lists k r → r ≡ entries_of d.entries k
list_read d lists k r e h f =
    let within : k < length lists = omega (arith, list_length d lists e) in
    get_or_read lists k r within f [] ∙ ap (λ l. get_or l k []) e ∙ get_or-map-range_with_len (entries_of d.entries) 0 (length d.rows) k k [] h (omega arith)
