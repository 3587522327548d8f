use Rattle.probe.proofs.Systems.{in_where, not_in_where}
use Rattle.probe.proofs.below.is_in.Goals as goal

pub returns-then-meets : goal.returns-then-meets
returns-then-meets c = in_where c.args.case.now c.args.tight.now c.args.point.now c.meets.result c.is_tight_at.result c.requires.point c.if-meets.true c.meets.ensures c.is_tight_at.ensures

pub returns-else-meets : goal.returns-else-meets
returns-else-meets c = not_in_where c.args.case.now c.args.tight.now c.args.point.now c.meets.result c.requires.point c.if-meets.false c.meets.ensures
