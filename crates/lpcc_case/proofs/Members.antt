-- Numbers that name constraints of a case, and tests of each element of a list.
use Rattle.std.proofs.Common.{ℕ, ◌+◌, ◌<◌, ◌≤◌, ◌≡◌, sym, subst, ℤ, List, length, get_or, take}
use Rattle.std.specs.Prelude.{All}
use Rattle.std.proofs.lemmas.List.{get_or_read, take_all}
use Rattle.std.proofs.lemmas.Option.{slice_get_within}
use Rattle.std.proofs.lemmas.List.Elements.{All-get_or, All-more}
use Rattle.lpcc_case.specs.Instance.{Instance, constraint_at, no_constraint}
use Rattle.lpcc_case.specs.Cases.{IsCase, IsConstraint, NamesInequality}

-- a pair's members are constraints of the case
pub members_within : (a : Instance) (k : ℕ) (d : ℕ × ℕ) → IsCase a → k < length a.pairs → ((get_or a.pairs k d).0 < length a.constraints) × ((get_or a.pairs k d).1 < length a.constraints)
members_within a k d kept h =
    let both = All-get_or (λ p. NamesInequality a.constraints p.0 × NamesInequality a.constraints p.1) a.pairs k d h kept.pairs in
    (slice_get_within _ _ _ both.0.1, slice_get_within _ _ _ both.1.1)

-- a constraint of a case has its form
pub constraint_of_case : (a : Instance) (k : ℕ) → IsCase a → k < length a.constraints → IsConstraint a.columns (constraint_at a k)
constraint_of_case a k kept h = All-get_or (IsConstraint a.columns) a.constraints k no_constraint h kept.constraints

-- ---- a loop that tests each element of a list

pub next_holds : {T : Type 0} (P : T → Type 0) (xs ys : List T) (i : ℕ) (d item : T) → ys ≡ xs → i < length ys → item ≡ get_or ys i item → All P (take i xs) → P item → All P (take (i + 1) xs)
next_holds P xs ys i d item same lt read before here =
    let within : i < length xs = rw same at lt in
    All-more P xs i d within before (rw (get_or_read xs i item within (rw same at read) d) at here)

-- a number u that the loop reads again is z
pub all_hold : {T : Type 0} (P : ℤ → T → Type 0) (u z : ℤ) (xs ys : List T) (i : ℕ) → u ≡ z → ys ≡ xs → length ys ≤ i → All (P u) (take i xs) → All (P z) xs
all_hold P u z xs ys i again same past before =
    subst (λ n. All (P n) xs) again (subst (All (P u)) (take_all i xs (rw same at past)) before)

pub one_fails : {T : Type 0} (P : ℤ → T → Type 0) (u z : ℤ) (xs ys : List T) (i : ℕ) (d : T) → u ≡ z → ys ≡ xs → i < length ys → (P u (get_or ys i d) → ⊥) → All (P z) xs → ⊥
one_fails P u z xs ys i d again same lt not_here all =
    let here : P z (get_or ys i d) = all_at P z xs ys i d same lt all in
    not_here (subst (λ n. P n (get_or ys i d)) (sym again) here)
  where
    all_at : {T : Type 0} (P : ℤ → T → Type 0) (z : ℤ) (xs ys : List T) (i : ℕ) (d : T) → ys ≡ xs → i < length ys → All (P z) xs → P z (get_or ys i d)
    all_at P z xs ys i d same lt all = rw same (all i d (rw same at lt))
