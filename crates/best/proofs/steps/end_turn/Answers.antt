use Rattle.std.proofs.Common.{arith, refl, ◌^◌}
use Rattle.best.proofs.Counts.{next_number}
use Rattle.best.proofs.Kept.{end_allowed}
use Rattle.best.proofs.steps.end_turn.Goals as goal

pub store-requires : goal.store-requires
store-requires g c =
    let seat = c.args.seat.now in
    let table = c.args.best.now.table.shared in (
      c.requires.ours,
      omega (arith, c.args.best.now.words_are),
      end_allowed g.T.Entry.is_lower table.table_id.slots seat.id seat.me c.args.ticket _ _ c.requires.slot (omega (arith, c.args.best.now.slots_are)) c.requires.turns (next_number c.args.ticket (2 ^ 64) seat.me.0.ticket c.requires.ticket) refl,
    )
