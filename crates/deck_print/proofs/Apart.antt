-- Entries of which each row has one at most for a column.
use Rattle.std.proofs.Common.{ℕ, ◌<◌, ◌≡◌, Bool, true, false, cond, ltb, eqb, List, [], ◌∷◌, ◌++◌, refl, sym, subst, append_assoc, arith}
use Rattle.std.specs.List.{AllByRecursion}
use Rattle.std.proofs.lemmas.Bool.{and_parts, eq-eqb, ltb-true}
use Rattle.lp_base.specs.Ascending.{ascends_by}
use Rattle.decks.specs.Decks.{entries_of, entry_column}
use Rattle.decks.specs.declared.deck.Entry.{Entry}
use Rattle.decks.proofs.KeptParts.{all_weaker}

abbrev pub AreAscending : List Entry → Type 0
AreAscending es = (row : ℕ) → ascends_by entry_column (entries_of es row) ≡ true

-- not of the same column and row
abbrev pub IsApartFrom : Entry → Entry → Type 0
IsApartFrom e d = d.column ≡ e.column → d.row ≡ e.row → ⊥

-- each is apart from those before it
abbrev pub AreApart : List Entry → List Entry → Type 0
AreApart done [] = Unit {0}
AreApart done (e ∷ es) = AllByRecursion (IsApartFrom e) done × AreApart (done ++ e ∷ []) es

later : (e : Entry) (es : List Entry) → ascends_by entry_column (e ∷ es) ≡ true → AllByRecursion (λ d. e.column < d.column) es
later e [] h = tt
later e (d ∷ es) h =
    let p = and_parts (ltb e.column d.column) (ascends_by entry_column (d ∷ es)) h in
    let less : e.column < d.column = ltb-true e.column d.column p.0 in
    (less, all_weaker (λ (x : Entry). d.column < x.column) (λ x. e.column < x.column) (λ x l. omega (arith, less, l)) es (later d es p.1))

tail_ascends : (e : Entry) (es : List Entry) → ascends_by entry_column (e ∷ es) ≡ true → ascends_by entry_column es ≡ true
tail_ascends e [] h = refl
tail_ascends e (d ∷ es) h = (and_parts (ltb e.column d.column) (ascends_by entry_column (d ∷ es)) h).1

-- what holds of the entries of a row holds of one of them
of_row : (P : Entry → Type 0) (done rest : List Entry) (e : Entry) (row : ℕ) → e.row ≡ row → AllByRecursion P (entries_of (done ++ e ∷ rest) row) → P e
of_row P [] rest e row same h = here (eqb e.row row) (eq-eqb e.row row same) h
  where
    here : (t : Bool) → t ≡ true → AllByRecursion P (cond t (e ∷ entries_of rest row) (entries_of rest row)) → P e
    here true q a = a.0
    here false q a = absurd cc
of_row P (d ∷ done) rest e row same h = of_row P done rest e row same (skip (eqb d.row row) (entries_of (done ++ e ∷ rest) row) h)
  where
    skip : (t : Bool) (es : List Entry) → AllByRecursion P (cond t (d ∷ es) es) → AllByRecursion P es
    skip true es a = a.1
    skip false es a = a

behind : (d : Entry) (es : List Entry) → AreAscending (d ∷ es) → AreAscending es
behind d es h row = by (eqb d.row row) (h row)
  where
    by : (t : Bool) → ascends_by entry_column (cond t (d ∷ entries_of es row) (entries_of es row)) ≡ true → ascends_by entry_column (entries_of es row) ≡ true
    by true a = tail_ascends d (entries_of es row) a
    by false a = a

first_in : (d : Entry) (es : List Entry) → AreAscending (d ∷ es) → AllByRecursion (λ x. d.column < x.column) (entries_of es d.row)
first_in d es h = by (eqb d.row d.row) (eq-eqb d.row d.row refl) (h d.row)
  where
    by : (t : Bool) → t ≡ true → ascends_by entry_column (cond t (d ∷ entries_of es d.row) (entries_of es d.row)) ≡ true → AllByRecursion (λ x. d.column < x.column) (entries_of es d.row)
    by true q a = later d (entries_of es d.row) a
    by false q a = absurd cc

apart_before : (done rest : List Entry) (e : Entry) → AreAscending (done ++ e ∷ rest) → AllByRecursion (IsApartFrom e) done
apart_before [] rest e h = tt
apart_before (d ∷ done) rest e h = (
  λ column row. (let l : d.column < e.column = of_row (λ x. d.column < x.column) done rest e d.row (sym row) (first_in d (done ++ e ∷ rest) h) in omega (arith, l, column)),
  apart_before done rest e (behind d (done ++ e ∷ rest) h),
)

pub are_apart : (done es : List Entry) → AreAscending (done ++ es) → AreApart done es
are_apart done [] h = tt
are_apart done (e ∷ es) h = (apart_before done es e h, are_apart (done ++ e ∷ []) es (subst AreAscending (sym (append_assoc done (e ∷ []) es)) h))
