-- An instance of a linear program with complementarity constraints, over whole numbers of any size.
use Rattle.std.specs.Prelude.{ℕ, ℤ, pos, List, [], length, slice_index_or}
use Rattle.sense.specs.declared.objective.Sense.{Sense}
use Rattle.nogoods.specs.declared.choice.Choice.{Choice}
use Rattle.nogoods.specs.declared.choice.Side.{Side}
use Rattle.nogoods.specs.declared.choice.Side.TheVariants.{A, B}
use Rattle.lpcc_case.specs.declared.constraint.Constraint.{Constraint}
use Rattle.lpcc_case.specs.declared.constraint.Kind.TheVariants.{Eq}

-- find the least cost over the x that meet the constraints, and in each pair with equality in one; the objective of the
-- model is (cost x + offset) / scale, with the other sign where it is to be greatest
pub record Instance : Type 0 where
  pub columns : ℕ
  pub cost : List ℤ
  pub scale : ℤ
  pub offset : ℤ
  pub sense : Sense
  pub constraints : List Constraint
  pub pairs : List (ℕ × ℕ)

-- 0 = 0, which every point meets with equality: what stands at a number past the last constraint
abbrev pub no_constraint : Constraint
no_constraint = record { kind = Eq; terms = []; rhs = pos 0 }

abbrev pub constraint_at : Instance → ℕ → Constraint
constraint_at a k = slice_index_or a.constraints k no_constraint

-- the member of a pair on a side
abbrev pub member : ℕ × ℕ → Side → ℕ
member pair A = pair.0
member pair B = pair.1

-- the pair of this number; past the last pair stands one whose members are past the last constraint
abbrev pub pair_at : Instance → ℕ → ℕ × ℕ
pair_at a k = slice_index_or a.pairs k (length a.constraints, length a.constraints)

-- the number of the constraint that a choice makes tight
abbrev pub chosen_number : Instance → Choice → ℕ
chosen_number a c = member (pair_at a c.pair) c.side

abbrev pub chosen : Instance → Choice → Constraint
chosen a c = constraint_at a (chosen_number a c)
