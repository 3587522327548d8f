-- The verdicts on an instance, and when each is true. They know nothing of pieces, cuts or rays.
use Rattle.std.specs.Prelude.{◌≡◌, ◌<◌, ℕ, ℤ, pos, ◌+ℤ◌, ◌*ℤ◌, ◌<ℤ◌}
use Rattle.lp_nums.specs.Fractions.{SameValue}
use Rattle.lpcc_case.specs.declared.verdict.Verdict.{Verdict}
use Rattle.lpcc_case.specs.declared.verdict.Verdict.TheVariants.{Optimal, Infeasible, Unbounded}
use Rattle.sense.specs.Senses.{signed}
use Rattle.lpcc_case.specs.Instance.{Instance}
use Rattle.lpcc_case.specs.Points.{Point, IsFeasible, IsLower, cost_at}

-- (cost x + offset) / scale at the point, negated where the objective is to be greatest, is numerator / denominator
abbrev pub HasValue : (a : Instance) → Point a.columns → ℤ → ℕ → Type 0
HasValue a p numerator denominator = (signed a.sense (cost_at a p +ℤ (a.offset *ℤ pos p.d)) *ℤ pos denominator) ≡ (numerator *ℤ (a.scale *ℤ pos p.d))

-- a feasible point has this value, and no feasible point is lower
abbrev pub IsOptimal : Instance → ℤ → ℕ → Type 0
IsOptimal a numerator denominator =
    (p : Point a.columns) × (0 < denominator) × IsFeasible a p × HasValue a p numerator denominator
    × ((q : Point a.columns) → IsFeasible a q → IsLower a q p → ⊥)

-- there is no feasible point
abbrev pub IsInfeasible : Instance → Type 0
IsInfeasible a = (p : Point a.columns) → IsFeasible a p → ⊥

-- below each whole number a feasible point has its cost
abbrev pub IsUnbounded : Instance → Type 0
IsUnbounded a = (bound : ℤ) → (p : Point a.columns) × IsFeasible a p × (cost_at a p <ℤ (bound *ℤ pos p.d))

abbrev pub IsTrueOf : Instance → Verdict → Type 0
IsTrueOf a (Optimal value) = (denominator : ℕ) × (pos denominator ≡ value.den) × IsOptimal a value.num denominator
IsTrueOf a Infeasible = IsInfeasible a
IsTrueOf a Unbounded = IsUnbounded a

-- the same verdict, and where both are optimal the same value
abbrev pub SameVerdict : Verdict → Verdict → Type 0
SameVerdict (Optimal v) (Optimal w) = SameValue v w
SameVerdict (Optimal v) Infeasible = ⊥
SameVerdict (Optimal v) Unbounded = ⊥
SameVerdict Infeasible (Optimal w) = ⊥
SameVerdict Infeasible Infeasible = Unit {0}
SameVerdict Infeasible Unbounded = ⊥
SameVerdict Unbounded (Optimal w) = ⊥
SameVerdict Unbounded Infeasible = ⊥
SameVerdict Unbounded Unbounded = Unit {0}
