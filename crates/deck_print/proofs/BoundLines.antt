-- The lines of BOUNDS, which free columns: they are right, and the columns have the bounds that they are printed with.
use Rattle.std.proofs.Common.{ℕ, ◌+◌, ◌≡◌, Bool, true, false, not, cond, eqb, List, [], ◌∷◌, ◌++◌, map, Option, Some, None, refl, sym, ap, ◌∙◌, inl, inr}
use Rattle.std.specs.Prelude.{codes, filter, fold}
use Rattle.std.specs.List.{AllByRecursion, flat_map}
use Rattle.std.specs.Str.{bytes_eq}
use Rattle.std.proofs.lemmas.Bool.{and_right, or_parts}
use Rattle.mps_lex.specs.Kinds.{Name}
use Rattle.mps_lex.specs.Lines.{Line}
use Rattle.decks.specs.Decks.{zero}
use Rattle.decks.specs.declared.bounds.BoundKind.TheVariants.{Fr}
use Rattle.decks.specs.declared.deck.Column.{Column}
use Rattle.decks.specs.declared.fault.DeckWhy.TheVariants.{UnknownName}
use Rattle.decks.specs.Names.{has}
use Rattle.decks.specs.Bounds.{Setting, bound_behind, bound_kind, bound_set, bounded, column_bounds, default_column, is_below_zero, least, set_by, set_with, setting_of_kind, setting_on, settings_in, settings_of, upper_below_zero, upper_by}
use Rattle.decks.specs.Numbers.{is_negative}
use Rattle.decks.specs.Faults.{◌or◌, bound_fault, bound_kind_fault, fault_if, set_fault}
use Rattle.decks.specs.Spelling.{column_names, first_set}
use Rattle.decks.proofs.KeptNames.{own_name}
use Rattle.decks.proofs.KeptSlices.{IsRightBy, bounds_fault}
use Rattle.decks.proofs.OnceNames.{other_way}
use Rattle.deck_print.specs.Printed.{AreColumnsFrom, AreDistinct, NamedColumn, bound_words, column_name, column_of, free_column, is_bounded}
use Rattle.deck_print.proofs.Lined.{all_said, said}
use Rattle.deck_print.proofs.Optional.{one_set, right_by}

fr_kind : bound_kind (codes "FR") ≡ Some Fr
unfolding bound_kind
fr_kind = refl

abbrev words : NamedColumn → List Name
words c = codes "FR" ∷ codes "bnd" ∷ c.0 ∷ []

abbrev pub bound_lines : ℕ → List NamedColumn → List Line
bound_lines n cs = all_said n (flat_map bound_words cs)

-- ---- the lines are right

abbrev pub IsNamed : List Name → NamedColumn → Type 0
IsNamed ns c = has ns c.0 ≡ true

bound_fine : (ns : List Name) (set : Option Name) (c : NamedColumn) → set_fault set (codes "bnd") ≡ None → IsNamed ns c → bound_fault ns set (words c) ≡ None
bound_fine ns set c one named =
    ap (λ k. bound_kind_fault ns set (codes "FR") k (codes "bnd" ∷ c.0 ∷ [])) fr_kind
    ∙ ap (λ o. o or (fault_if (not (has ns c.0)) UnknownName or None)) one
    ∙ ap (λ t. fault_if (not t) UnknownName or None) named

set_is : (c : NamedColumn) → bound_set (words c) ≡ codes "bnd"
set_is c = ap (λ k. set_with k (codes "bnd" ∷ c.0 ∷ [])) fr_kind

pub bounds_right : (lines : List Line) (ns : List Name) (before : List Line) (cs : List NamedColumn) (n : ℕ) → column_names lines ≡ ns → set_fault (first_set bound_set before) (codes "bnd") ≡ None → AllByRecursion (IsNamed ns) cs
    → IsRightBy (bounds_fault lines) before (bound_lines n cs)
bounds_right lines ns before [] n e one h = tt
bounds_right lines ns before (c ∷ cs) n e one h =
    let l = said n (words c) in
    right_by (is_bounded c.1) (bounds_fault lines) before n (words c) (flat_map bound_words cs)
    (λ none. bounds_right lines ns before cs n e one h.1)
    (λ some. (
      ap (λ names. bound_fault names (first_set bound_set before) (words c)) e ∙ bound_fine ns (first_set bound_set before) c one h.0,
      bounds_right lines ns (before ++ l ∷ []) cs (n + 1) e (one_set bound_set (codes "bnd") before l (set_is c) one) h.1,
    ))

-- ---- what they set

abbrev pub free_setting : ℕ → Name → Setting
free_setting n c = record { kind = Fr; line = n; column = c; value = zero }

abbrev pub frees : ℕ → List NamedColumn → List Setting
frees n [] = []
frees n (c ∷ cs) = cond (is_bounded c.1) (frees n cs) (free_setting n c.0 ∷ frees (n + 1) cs)

setting_said : (n : ℕ) (c : NamedColumn) → setting_on n (words c) ≡ free_setting n c.0 ∷ []
setting_said n c = ap (λ k. setting_of_kind k n (codes "bnd" ∷ c.0 ∷ [])) fr_kind

pub settings_said : (n : ℕ) (cs : List NamedColumn) → settings_in (bound_lines n cs) ≡ frees n cs
settings_said n [] = refl
settings_said n (c ∷ cs) = by (is_bounded c.1) (settings_said n cs) (settings_said (n + 1) cs)
  where
    by : (t : Bool) → settings_in (bound_lines n cs) ≡ frees n cs → settings_in (bound_lines (n + 1) cs) ≡ frees (n + 1) cs
        → settings_in (all_said n (cond t [] (words c ∷ []) ++ flat_map bound_words cs)) ≡ cond t (frees n cs) (free_setting n c.0 ∷ frees (n + 1) cs)
    by true here next = here
    by false here next = λ i. setting_said n c i ++ next i

-- ---- no upper bound is below 0

abbrev IsFreeing : Setting → Type 0
IsFreeing s = s.kind ≡ Fr

all_free : (n : ℕ) (cs : List NamedColumn) → AllByRecursion IsFreeing (frees n cs)
all_free n [] = tt
all_free n (c ∷ cs) = by (is_bounded c.1) (all_free n cs) (all_free (n + 1) cs)
  where
    by : (t : Bool) → AllByRecursion IsFreeing (frees n cs) → AllByRecursion IsFreeing (frees (n + 1) cs) → AllByRecursion IsFreeing (cond t (frees n cs) (free_setting n c.0 ∷ frees (n + 1) cs))
    by true here next = here
    by false here next = (refl, next)

still_none : (ss : List Setting) (c : Column) → AllByRecursion IsFreeing ss → c.upper.value ≡ None → (fold set_by c ss).upper.value ≡ None
still_none [] c h e = e
still_none (s ∷ ss) c h e =
    let none : (set_by c s).upper.value ≡ None = ap (λ k. (bound_behind s.line c.upper (upper_by k s.value)).value) h.0 in
    still_none ss (set_by c s) h.1 none

some_free : (n : Name) (ss : List Setting) → AllByRecursion IsFreeing ss → AllByRecursion IsFreeing (settings_of n ss)
some_free n [] h = tt
some_free n (s ∷ ss) h = by (bytes_eq n s.column) (some_free n ss h.1)
  where
    by : (t : Bool) → AllByRecursion IsFreeing (settings_of n ss) → AllByRecursion IsFreeing (cond t (s ∷ settings_of n ss) (settings_of n ss))
    by true rest = (h.0, rest)
    by false rest = rest

not_below : (c : Column) → c.upper.value ≡ None → is_below_zero c ≡ false
not_below c e = and_right (eqb c.lower.line 0) (is_negative c.upper.value) (ap is_negative e)

none_below : (ss : List Setting) (ns : List Name) → AllByRecursion IsFreeing ss → filter is_below_zero (map (column_bounds ss) ns) ≡ []
none_below ss [] h = refl
none_below ss (n ∷ ns) h =
    let c = column_bounds ss n in
    ap (λ t. cond t (c ∷ filter is_below_zero (map (column_bounds ss) ns)) (filter is_below_zero (map (column_bounds ss) ns))) (not_below c (still_none (settings_of n ss) default_column (some_free n ss h) refl))
    ∙ none_below ss ns h

pub none_below_zero : (n : ℕ) (cs : List NamedColumn) → upper_below_zero (frees n cs) ≡ None
none_below_zero n cs = ap (λ xs. least (map (λ (c : Column). c.upper.line) xs)) (none_below (frees n cs) (bounded (frees n cs)) (all_free n cs))

-- ---- the columns

-- a setting of another column does not matter
other_setting : (s : Setting) (ss : List Setting) (ns : List Name) → has ns s.column ≡ false → map (column_bounds (s ∷ ss)) ns ≡ map (column_bounds ss) ns
other_setting s ss [] h = refl
other_setting s ss (n ∷ ns) h =
    let p = or_parts (bytes_eq s.column n) (has ns s.column) h in
    let same : column_bounds (s ∷ ss) n ≡ column_bounds ss n = ap (λ t. fold set_by default_column (cond t (s ∷ settings_of n ss) (settings_of n ss))) (other_way s.column n p.0) in
    λ i. same i ∷ other_setting s ss ns p.1 i

none_of : (n : Name) (line : ℕ) (cs : List NamedColumn) → has (map column_name cs) n ≡ false → settings_of n (frees line cs) ≡ []
none_of n line [] h = refl
none_of n line (c ∷ cs) h =
    let p = or_parts (bytes_eq n c.0) (has (map column_name cs) n) h in
    by (is_bounded c.1) p.0 (none_of n line cs p.1) (none_of n (line + 1) cs p.1)
  where
    by : (t : Bool) → bytes_eq n c.0 ≡ false → settings_of n (frees line cs) ≡ [] → settings_of n (frees (line + 1) cs) ≡ [] → settings_of n (cond t (frees line cs) (free_setting line c.0 ∷ frees (line + 1) cs)) ≡ []
    by true e here next = here
    by false e here next = ap (λ t. cond t (free_setting line c.0 ∷ settings_of n (frees (line + 1) cs)) (settings_of n (frees (line + 1) cs))) e ∙ next

default_again : (line : ℕ) (c : NamedColumn) (cs : List NamedColumn) → has (map column_name cs) c.0 ≡ false → c.1 ≡ default_column → map (column_bounds (frees line cs)) (map column_name cs) ≡ map column_of cs
    → map (column_bounds (frees line (c ∷ cs))) (map column_name (c ∷ cs)) ≡ map column_of (c ∷ cs)
default_again line c cs new is rest =
    let front : frees line (c ∷ cs) ≡ frees line cs = ap (λ x. cond (is_bounded x) (frees line cs) (free_setting line c.0 ∷ frees (line + 1) cs)) is in
    let here : column_bounds (frees line cs) c.0 ≡ c.1 = ap (fold set_by default_column) (none_of c.0 line cs new) ∙ sym is in
    ap (λ ss. map (column_bounds ss) (map column_name (c ∷ cs))) front ∙ (λ i. here i ∷ rest i)

free_again : (line : ℕ) (c : NamedColumn) (cs : List NamedColumn) → has (map column_name cs) c.0 ≡ false → c.1 ≡ free_column line → map (column_bounds (frees (line + 1) cs)) (map column_name cs) ≡ map column_of cs
    → map (column_bounds (frees line (c ∷ cs))) (map column_name (c ∷ cs)) ≡ map column_of (c ∷ cs)
free_again line c cs new is rest =
    let s = free_setting line c.0 in
    let ss = frees (line + 1) cs in
    let front : frees line (c ∷ cs) ≡ s ∷ ss = ap (λ x. cond (is_bounded x) (frees line cs) (s ∷ ss)) is in
    let here : column_bounds (s ∷ ss) c.0 ≡ c.1 =
    ap (λ t. fold set_by default_column (cond t (s ∷ settings_of c.0 ss) (settings_of c.0 ss))) (own_name c.0) ∙ ap (λ xs. fold set_by default_column (s ∷ xs)) (none_of c.0 (line + 1) cs new) ∙ sym is in
    ap (λ xs. map (column_bounds xs) (map column_name (c ∷ cs))) front ∙ (λ i. here i ∷ (other_setting s ss (map column_name cs) new ∙ rest) i)

pub columns_again : (line : ℕ) (cs : List NamedColumn) → AreDistinct (map column_name cs) → AreColumnsFrom line cs → map (column_bounds (frees line cs)) (map column_name cs) ≡ map column_of cs
columns_again line [] d h = refl
columns_again line (c ∷ cs) d h = elim h [
  | inl f ↦ default_again line c cs d.0 f.0 (columns_again line cs d.1 f.1)
  | inr f ↦ free_again line c cs d.0 f.0 (columns_again (line + 1) cs d.1 f.1)
]
