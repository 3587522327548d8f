use Rattle.std.proofs.Common.{◌≡◌, take}
use Rattle.lp_base.specs.Sums.{dot}
use Rattle.lpcc_case.proofs.sums.cost_of.Given as goal

abbrev pub invariant-loop-j : goal.invariant-loop-j
invariant-loop-j l = l.sum ≡ dot (take l.j l.case.cost) (take l.j l.numbers)
