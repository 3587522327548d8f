use Rattle.parallel_check.proofs.Cuts.{AreLists}
use Rattle.parallel_check.proofs.testing.lists_in.Given as goal

abbrev pub invariant-loop-line : goal.invariant-loop-line
invariant-loop-line l = AreLists l.lines l.line-index l.lists
