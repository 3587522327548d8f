use Rattle.own_order.specs.Searching.{IsTrueOf}
use Rattle.settling.proofs.searching.begun.Given as goal

abbrev pub invariant-loop-cut : goal.invariant-loop-cut
invariant-loop-cut l = IsTrueOf l.case l.search
