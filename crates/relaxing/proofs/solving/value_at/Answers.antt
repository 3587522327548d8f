use Rattle.relaxing.proofs.Ends.{point_room}
use Rattle.relaxing.proofs.solving.value_at.Goals as goal

pub value_of-requires-clause-room : goal.value_of-requires-clause-room
value_of-requires-clause-room c = point_room c.args.case.now c.args.point.now c.pairs-pairs.ensures.kept c.requires
