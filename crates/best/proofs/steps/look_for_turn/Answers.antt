use Rattle.std.proofs.Common.{arith}
use Rattle.best.proofs.Kept.{look_allowed}
use Rattle.best.proofs.steps.look_for_turn.Goals as goal

pub compare_exchange_with-requires : goal.compare_exchange_with-requires
compare_exchange_with-requires g c =
    let seat = c.args.seat.now in
    let table = c.args.best.now.table.shared in
    (c.requires.ours, omega (arith, c.args.best.now.words_are), look_allowed g.T.Entry.is_lower table.table_id.slots seat.id seat.me c.args.ticket c.args.offer.now c.requires.waits.0 c.requires.waits.1 c.requires.ticket)
