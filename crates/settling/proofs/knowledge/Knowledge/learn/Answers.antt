use Rattle.std.proofs.Common.{sym, subst}
use Rattle.settling.specs.Known.{IsTrueKnowledge}
use Rattle.settling.proofs.knowledge.Knowledge.learn.Goals as goal

pub returns-in-Some-clause-known : goal.returns-in-Some-clause-known
returns-in-Some-clause-known c =
    let before = subst (IsTrueKnowledge c.args.case.now) (sym c.self.view_is) c.requires.known in
    record { best = before.best; cuts = before.cuts; found = c.add_known.ensures }

pub push_known-requires-clause-cuts : goal.push_known-requires-clause-cuts
push_known-requires-clause-cuts c =
    (subst (IsTrueKnowledge c.args.case.now) (sym c.self.view_is) c.requires.known).cuts
