use Rattle.tree_engine.proofs.Visits.{candidate, improved_leaf}
use Rattle.tree_engine.proofs.visit.of_lower.Goals as goal

pub returns-in-None : goal.returns-in-None
returns-in-None c =
    (candidate c.args.case.now c.args.path.now c.args.point c.requires.point (rw c.in-None.is at c.in_ok-pair.ensures.none), c.requires.lower, improved_leaf c.args.case.now c.args.path.now c.args.point c.args.cut c.requires.cut)
