use Rattle.best.proofs.Kept.{in_hand}
use Rattle.best.proofs.turn.settle.Goals as goal

pub slot_mut-slot-requires : goal.slot_mut-slot-requires
slot_mut-slot-requires g c = (c.requires.ours, in_hand c.args.seat.now.me.1 _ c.requires.slot)
