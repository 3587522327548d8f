use Rattle.std.specs.Option.{option_copied}
use Rattle.shrink.proofs.Within.{shrunk_within}
use Rattle.shrink.proofs.shrinking.shrink_with_probe.Goals as goal

pub returns : goal.returns
returns c = shrunk_within c.args.case.now c.args.pivots (option_copied c.args.limit) c.args.cut c.in_ok-smaller.smaller c.shrink_with.result c.in_ok-smaller.ensures c.shrink_with.ensures
