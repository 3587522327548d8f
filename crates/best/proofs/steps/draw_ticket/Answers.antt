use Rattle.std.proofs.Common.{arith}
use Rattle.best.proofs.Kept.{draw_allowed}
use Rattle.best.proofs.steps.draw_ticket.Goals as goal

pub fetch_add-requires : goal.fetch_add-requires
fetch_add-requires g c =
    let seat = c.args.seat.now in
    let table = c.args.best.now.table.shared in
    (c.requires.ours, omega (arith, c.args.best.now.words_are), draw_allowed g.T.Entry.is_lower table.table_id.slots seat.id seat.me c.requires.idle.0 c.requires.idle.1)
