use Rattle.std.proofs.Common.{sym, subst}
use Rattle.settling.specs.Known.{IsTrueKnowledge}
use Rattle.settling.proofs.knowledge.Knowledge.improve.Goals as goal

pub returns-clause-known : goal.returns-clause-known
returns-clause-known c =
    let before = subst (IsTrueKnowledge c.args.case.now) (sym c.self.view_is) c.requires.known in
    record { best = c.improved.ensures.best; cuts = before.cuts; found = before.found }
