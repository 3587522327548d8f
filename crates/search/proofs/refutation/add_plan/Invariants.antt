use Rattle.search.specs.Growth.{Grown}
use Rattle.search.proofs.refutation.add_plan.Given as goal

abbrev pub invariant-loop-planned : goal.invariant-loop-planned
invariant-loop-planned l = Grown l.pairs l.initial.log l.log
