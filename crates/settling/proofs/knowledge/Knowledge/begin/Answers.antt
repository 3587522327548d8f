use Rattle.std.proofs.Common.{sym, subst}
use Rattle.settling.specs.Known.{IsTrueKnowledge}
use Rattle.settling.proofs.knowledge.Knowledge.begin.Goals as goal

pub returns : goal.returns
returns c =
    let before = subst (IsTrueKnowledge c.args.case.now) (sym c.self.view_is) c.requires.known in
    record { known = record { best = before.best; cuts = before.cuts; found = c.in_ok-search.ensures } }
