use Rattle.engine.proofs.Turns.{pause_of}
use Rattle.engine.proofs.turn.turn.Goals as goal

pub unreachable-requires : goal.unreachable-requires
unreachable-requires c =
    pause_of c.args.case.now c.args.options.now c.args.desk.now c.draw.new.self c.in_ok-ticket.field-0 c.requires.waits c.in-Pause.is c.in_ok-ticket.ensures.ok
