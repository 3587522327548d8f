use Rattle.std.proofs.Common.{◌≡◌, take}
use Rattle.lpcc_case.proofs.case.copy_constraints.Given as goal

abbrev pub invariant-loop-constraint : goal.invariant-loop-constraint
invariant-loop-constraint l = l.made ≡ take l.constraint-index l.constraints
