use Rattle.cert_parts.proofs.FormLaws.{z_small}
use Rattle.branching.proofs.endings.value_at.Goals as goal

pub value_of-requires-clause-room : goal.value_of-requires-clause-room
value_of-requires-clause-room c = z_small c.args.case.now c.args.point.now c.pairs-pairs.ensures.kept c.requires
