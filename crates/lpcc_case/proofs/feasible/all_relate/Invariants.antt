use Rattle.std.proofs.Common.{All, take, ◌*ℤ◌}
use Rattle.lpcc_case.specs.Points.{Relates, left_side}
use Rattle.lpcc_case.proofs.feasible.all_relate.Given as goal

abbrev pub invariant-loop-constraint : goal.invariant-loop-constraint
invariant-loop-constraint l =
    All (λ c. Relates c.kind (left_side c.terms l.numbers) (c.rhs *ℤ l.d)) (take l.constraint-index l.case.constraints)
