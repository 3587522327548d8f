use Rattle.std.specs.Option.{option_copied}
use Rattle.tree_engine.proofs.Visits.{closed_leaf}
use Rattle.tree_engine.proofs.visit.of_optimum.Goals as goal

pub returns-else-is_under : goal.returns-else-is_under
returns-else-is_under c = closed_leaf c.args.case.now (option_copied c.args.best) c.args.path.now c.args.point c.args.cut c.is_under.result c.requires.best c.if-is_under.false c.is_under.ensures c.requires.point c.requires.cut
