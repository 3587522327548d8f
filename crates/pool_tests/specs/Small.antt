-- The constraints of the small case.
use Rattle.std.specs.Prelude.{ℕ, ℤ, pos, List, [], ◌∷◌}
use Rattle.lpcc_case.specs.declared.constraint.Constraint.{Constraint}
use Rattle.lpcc_case.specs.declared.constraint.Kind.TheVariants.{Ge}

-- the column is at least this number
abbrev pub bound_of : ℕ → ℤ → Constraint
bound_of column rhs = record { kind = Ge; terms = (column, pos 1) ∷ []; rhs = rhs }

abbrev pub bounds : List Constraint
bounds = bound_of 0 (pos 1) ∷ bound_of 1 (pos 1) ∷ bound_of 0 (pos 0) ∷ bound_of 1 (pos 0) ∷ []
