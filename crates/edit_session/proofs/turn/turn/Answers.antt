use Rattle.engine.proofs.Turns.{done_of, pause_of}
use Rattle.edit_session.proofs.RunLaws.{draw_goes_on}
use Rattle.edit_session.proofs.turn.turn.Goals as goal

pub unreachable-requires : goal.unreachable-requires
unreachable-requires c =
    pause_of c.args.case.now c.args.options.now c.args.desk.now c.draw.new.self c.in_ok-ticket.field-0 c.requires.waits c.in-Pause.is c.in_ok-ticket.ensures.ok

pub returns-in_ok-absorb_active-in-Piece-clause-run : goal.returns-in_ok-absorb_active-in-Piece-clause-run
returns-in_ok-absorb_active-in-Piece-clause-run c kept ready =
    let drawn = draw_goes_on c.args.case.now c.args.options.now kept c.args.desk.now c.draw.new.self c.in_ok-ticket.field-0 c.args.waiting.now.items c.args.settled.now.items c.in_ok-ticket.ensures.ok ready in
    let settled = c.in_ok-settle_piece-in-Piece.ensures.run kept c.args.waiting.now.items drawn.run in
    record {
      run = c.in_ok-absorb_active-in-Piece.ensures.run c.args.options.now kept c.settle_piece.new.settled.items settled;
      inactive = c.in_ok-absorb_active-in-Piece.ensures.inactive;
    }

pub returns-in-Done-clause-turn : goal.returns-in-Done-clause-turn
returns-in-Done-clause-turn c =
    done_of c.args.case.now c.args.options.now c.args.desk.now c.draw.new.self c.in_ok-ticket.field-0 c.requires.waits c.in-Done.is c.in_ok-ticket.ensures.ok

pub returns-in-Done-clause-run : goal.returns-in-Done-clause-run
returns-in-Done-clause-run c kept ready =
    draw_goes_on c.args.case.now c.args.options.now kept c.args.desk.now c.draw.new.self c.in_ok-ticket.field-0 c.args.waiting.now.items c.args.settled.now.items c.in_ok-ticket.ensures.ok ready
