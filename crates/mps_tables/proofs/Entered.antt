-- The table of columns, when the entries of a line are added.
use Rattle.std.proofs.Common.{ℕ, ◌+◌, ◌≡◌, List, [], ◌∷◌, ◌++◌, Option, Result, Ok, Err, ap, sym, ◌∙◌}
use Rattle.std.specs.Prelude.{OnOk}
use Rattle.lp_nums.specs.Fractions.{Fraction}
use Rattle.mps_lex.specs.Kinds.{Name}
use Rattle.mps_tables.specs.declared.fault.Fault.{Fault}
use Rattle.decks.specs.declared.deck.Entry.{Entry}
use Rattle.mps_tables.specs.declared.rows.RowValue.{RowValue}
use Rattle.decks.specs.Names.{place, add_name}
use Rattle.decks.specs.Numbers.{value_of}
use Rattle.decks.specs.Spelling.{RowLine, entry_at, number_of_row, row_named}
use Rattle.mps_tables.specs.Known.{KnownColumns, rows_here, with_column}
use Rattle.decks.proofs.KeptNames.{place_own}

abbrev pub here_in : KnownColumns → List Name → KnownColumns
here_in k here = record k { here = here }

abbrev pub with_one : Name → List Entry → KnownColumns → KnownColumns
with_one c e k = record k { names = add_name k.names c; count = k.count + 1; entries = k.entries ++ e }

abbrev pub with_two : Name → List Entry → List Entry → KnownColumns → KnownColumns
with_two c e f k = record k { names = add_name k.names c; count = (k.count + 1) + 1; entries = (k.entries ++ e) ++ f }

-- an entry at the place of its column
same_entry : (rows : List RowLine) (names : List Name) (c r v : Name) (index : ℕ) (value : Fraction) (number : Option ℕ) → index ≡ place names c → number ≡ number_of_row (row_named rows r) → value ≡ value_of v
    → entry_at index value number ≡ entry_at (place (add_name names c) c) (value_of v) (number_of_row (row_named rows r))
same_entry rows names c r v index value number ei en ev =
    ap (λ (i : ℕ). entry_at i value number) (ei ∙ sym (place_own names c))
    ∙ ap (λ (x : Fraction). entry_at (place (add_name names c) c) x number) ev
    ∙ ap (λ (n : Option ℕ). entry_at (place (add_name names c) c) (value_of v) n) en

pub one_taken : {X : Type 0} (result : Result X Fault) (rows : List RowLine) (k k1 k2 new : KnownColumns) (c r v : Name) (index : ℕ) (x : RowValue) → k1 ≡ here_in k (rows_here k c) → k2 ≡ here_in k1 (k1.here ++ r ∷ [])
    → index ≡ place k.names c → x.number ≡ number_of_row (row_named rows r) → x.value ≡ value_of v → OnOk result (new ≡ with_one c (entry_at index x.value x.number) k2)
    → OnOk result (new ≡ with_column rows k (c ∷ r ∷ v ∷ []))
one_taken (Err e) rows k k1 k2 new c r v index x e1 e2 ei en ev h = tt
one_taken (Ok y) rows k k1 k2 new c r v index x e1 e2 ei en ev h =
    let e = entry_at index x.value x.number in
    h ∙ ap (λ (z : KnownColumns). with_one c e z) e2 ∙ ap (λ (z : KnownColumns). with_one c e (here_in z (z.here ++ r ∷ []))) e1
    ∙ ap (λ (t : List Entry). with_one c t (here_in k (rows_here k c ++ r ∷ []))) (same_entry rows k.names c r v index x.value x.number ei en ev)

pub two_taken : {X : Type 0} (result : Result X Fault) (rows : List RowLine) (k k1 new : KnownColumns) (c r v s w : Name) (index : ℕ) → k1 ≡ here_in k (rows_here k c) → index ≡ place k.names c
    → OnOk result (new ≡ with_two c (entry_at index (value_of v) (number_of_row (row_named rows r))) (entry_at index (value_of w) (number_of_row (row_named rows s))) (here_in k1 ((k1.here ++ r ∷ []) ++ s ∷ [])))
    → OnOk result (new ≡ with_column rows k (c ∷ r ∷ v ∷ s ∷ w ∷ []))
two_taken (Err e) rows k k1 new c r v s w index e1 ei h = tt
two_taken (Ok y) rows k k1 new c r v s w index e1 ei h =
    let first = λ (i : ℕ). entry_at i (value_of v) (number_of_row (row_named rows r)) in
    let second = λ (i : ℕ). entry_at i (value_of w) (number_of_row (row_named rows s)) in
    h ∙ ap (λ (z : KnownColumns). with_two c (first index) (second index) (here_in z ((z.here ++ r ∷ []) ++ s ∷ []))) e1
    ∙ ap (λ (i : ℕ). with_two c (first i) (second i) (here_in k ((rows_here k c ++ r ∷ []) ++ s ∷ []))) (ei ∙ sym (place_own k.names c))
