use Rattle.std.proofs.Common.{sym, subst}
use Rattle.settling.specs.Known.{IsTrueKnowledge}
use Rattle.settling.proofs.knowledge.Knowledge.keep_cut.Goals as goal

pub push_known-requires-clause-cuts : goal.push_known-requires-clause-cuts
push_known-requires-clause-cuts c =
    (subst (IsTrueKnowledge c.args.case.now) (sym c.self.view_is) c.requires.known).cuts
