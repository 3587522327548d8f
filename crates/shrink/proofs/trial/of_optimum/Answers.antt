use Rattle.std.specs.Option.{option_copied}
use Rattle.shrink.proofs.Shown.{optimum_within}
use Rattle.shrink.proofs.trial.of_optimum.Goals as goal

pub returns-else-is_under : goal.returns-else-is_under
returns-else-is_under c = optimum_within c.args.case.now (option_copied c.args.limit) c.args.tight.now c.args.point c.args.cut c.is_under.result c.if-is_under.false c.is_under.ensures c.requires.point c.requires.cut
