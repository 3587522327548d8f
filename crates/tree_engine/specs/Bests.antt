-- The best point that is known, or that none is.
use Rattle.std.specs.Prelude.{◌≤ℤ◌, ◌*ℤ◌, Option, Some, None}
use Rattle.lpcc_case.specs.Instance.{Instance}
use Rattle.lpcc_case.specs.Points.{IsFeasible}
use Rattle.lpcc_case.specs.NarrowPoints.{IsPointOf}
use Rattle.lpcc_case.specs.Values.{IsValue}
use Rattle.lpcc_case.specs.declared.point.Point.{Point}
use Rattle.lpcc_case.specs.declared.verdict.Verdict.{Verdict}
use Rattle.lpcc_case.specs.declared.verdict.Verdict.TheVariants.{Optimal, Infeasible, Unbounded}
use Rattle.reasons.specs.Reasons.{Has}

-- narrow numbers of a feasible point
pub record IsCandidate (a : Instance) (q : Point) : Type 0 where
  pub of : IsPointOf a q
  pub feasible : Has a q (IsFeasible a)

abbrev pub IsBest : Instance → Option Point → Type 0
IsBest a None = Unit {0}
IsBest a (Some q) = IsCandidate a q

-- the new best point is not above the old one; where there was none it may be any or none
abbrev pub IsNoHigher : Option Point → Option Point → Type 0
IsNoHigher new None = Unit {0}
IsNoHigher None (Some old) = ⊥
IsNoHigher (Some new) (Some old) = (new.z *ℤ old.d) ≤ℤ (old.z *ℤ new.d)

-- the verdict that no feasible point is lower than the best one; without a best point, that none is feasible
abbrev pub IsVerdictOf : Instance → Option Point → Verdict → Type 0
IsVerdictOf a (Some q) (Optimal value) = IsValue a q.z q.d value
IsVerdictOf a (Some q) Infeasible = ⊥
IsVerdictOf a (Some q) Unbounded = ⊥
IsVerdictOf a None (Optimal value) = ⊥
IsVerdictOf a None Infeasible = Unit {0}
IsVerdictOf a None Unbounded = ⊥
