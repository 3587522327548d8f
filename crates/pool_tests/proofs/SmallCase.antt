-- The small case is a case.
use Rattle.std.proofs.Common.{ℕ, ℤ, pos, ◌<◌, ◌≡◌, ◌≢◌, refl, arith, [], ◌∷◌}
use Rattle.std.proofs.lemmas.List.Elements.{All-from_recursion}
use Rattle.std.proofs.lemmas.Int.{ints}
use Rattle.sense.specs.declared.objective.Sense.TheVariants.{Min}
use Rattle.lpcc_case.specs.Cases.{FitsCase, IsConstraint, NamesInequality, IsCase, instance_of}
use Rattle.pool_tests.specs.Small.{bound_of, bounds}

fits : (z : ℤ) → (z ≡ pos 0) → FitsCase z
fits z e = omega (arith, ints, e)

fits_one : (z : ℤ) → (z ≡ pos 1) → FitsCase z
fits_one z e = omega (arith, ints, e)

one_not_zero : pos 1 ≢ pos 0
one_not_zero e = absurd (omega (arith, ints, e))

is_bound : (column : ℕ) (rhs : ℤ) → column < 2 → FitsCase rhs → IsConstraint 2 (bound_of column rhs)
is_bound column rhs h f = record {
  ascending = refl;
  columns_named = All-from_recursion (λ (t : ℕ × ℤ). t.0 < 2) ((column, pos 1) ∷ []) (h, tt);
  coefficients = All-from_recursion (λ (t : ℕ × ℤ). FitsCase t.1 × (t.1 ≢ pos 0)) ((column, pos 1) ∷ []) ((fits_one (pos 1) refl, one_not_zero), tt);
  right = f;
}

pub is_case : IsCase (instance_of 2 (pos 0 ∷ pos 0 ∷ []) (pos 1) (pos 0) Min bounds ((2, 3) ∷ []))
is_case = record {
  few_columns = omega arith;
  few_constraints = omega arith;
  few_pairs = omega arith;
  cost_length = refl;
  costs = All-from_recursion FitsCase (pos 0 ∷ pos 0 ∷ []) (fits (pos 0) refl, (fits (pos 0) refl, tt));
  scale_positive = omega (arith, ints);
  scale = fits_one (pos 1) refl;
  offset = fits (pos 0) refl;
  constraints = All-from_recursion (IsConstraint 2) bounds (is_bound 0 (pos 1) (omega arith) (fits_one (pos 1) refl), (is_bound 1 (pos 1) (omega arith) (fits_one (pos 1) refl), (is_bound 0 (pos 0) (omega arith) (fits (pos 0) refl), (is_bound 1 (pos 0) (omega arith) (fits (pos 0) refl), tt))));
  pairs = All-from_recursion (λ (p : ℕ × ℕ). NamesInequality bounds p.0 × NamesInequality bounds p.1) ((2, 3) ∷ []) (((bound_of 0 (pos 0), refl, refl), (bound_of 1 (pos 0), refl, refl)), tt);
}
