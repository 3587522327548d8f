use Rattle.std.proofs.Common.{◌≤◌, length}
use Rattle.parallel_check.proofs.Lines.{ArePassed}
use Rattle.parallel_check.proofs.lines1.first_failing.Given as goal

abbrev pub invariant-loop-at : goal.invariant-loop-at
invariant-loop-at l = ArePassed l.case l.value l.lines l.at l.earlier
