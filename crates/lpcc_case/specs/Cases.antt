-- The facts that a case keeps.
use Rattle.std.specs.Prelude.{◌≡◌, ◌≢◌, ◌≤◌, ◌<◌, ◌≤ℤ◌, ℕ, ℤ, pos, List, All, IsTrue, Some, length, slice_get, unsigned_abs}
use Rattle.lp_base.specs.Ascending.{ascends_by, number_of}
use Rattle.lp_base.specs.declared.limits.TheConstants.{LARGEST_OF_CASE, MOST_COLUMNS, MOST_CONSTRAINTS, MOST_PAIRS}
use Rattle.lpcc_case.specs.declared.constraint.Constraint.{Constraint}
use Rattle.lpcc_case.specs.declared.constraint.Kind.TheVariants.{Ge}
use Rattle.sense.specs.declared.objective.Sense.{Sense}
use Rattle.lpcc_case.specs.Instance.{Instance}

abbrev pub instance_of : ℕ → List ℤ → ℤ → ℤ → Sense → List Constraint → List (ℕ × ℕ) → Instance
instance_of columns cost scale offset sense constraints pairs = record { columns = columns; cost = cost; scale = scale; offset = offset; sense = sense; constraints = constraints; pairs = pairs }

-- at most 2^52 in size
abbrev pub FitsCase : ℤ → Type 0
FitsCase z = unsigned_abs z ≤ LARGEST_OF_CASE

-- the terms name columns that ascend strictly, and none is zero
pub record IsConstraint (columns : ℕ) (c : Constraint) : Type 0 where
  pub ascending : IsTrue (ascends_by number_of c.terms)
  pub columns_named : All (λ t. t.0 < columns) c.terms
  pub coefficients : All (λ t. FitsCase t.1 × (t.1 ≢ pos 0)) c.terms
  pub right : FitsCase c.rhs

-- the constraint at this number is there, and is an inequality
abbrev pub NamesInequality : List Constraint → ℕ → Type 0
NamesInequality constraints k = (c : Constraint) × (slice_get constraints k ≡ Some c) × (c.kind ≡ Ge)

pub record IsCase (a : Instance) : Type 0 where
  pub few_columns : a.columns ≤ MOST_COLUMNS
  pub few_constraints : length a.constraints ≤ MOST_CONSTRAINTS
  pub few_pairs : length a.pairs ≤ MOST_PAIRS
  pub cost_length : length a.cost ≡ a.columns
  pub costs : All FitsCase a.cost
  pub scale_positive : pos 1 ≤ℤ a.scale
  pub scale : FitsCase a.scale
  pub offset : FitsCase a.offset
  pub constraints : All (IsConstraint a.columns) a.constraints
  pub pairs : All (λ p. NamesInequality a.constraints p.0 × NamesInequality a.constraints p.1) a.pairs
