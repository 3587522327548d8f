use Rattle.settling.specs.Known.{IsTrueKnowledge}
use Rattle.edit_session.proofs.taking.learn_all.Given as goal

abbrev pub invariant-loop-cut : goal.invariant-loop-cut
invariant-loop-cut l = IsTrueKnowledge l.case l.known
