use Rattle.engine.proofs.Turns.{may_settle}
use Rattle.engine.proofs.turn.settle_piece.Goals as goal

pub settle-requires : goal.settle-requires
settle-requires c = record {
  may = may_settle c.args.case.now c.args.options.now c.args.ticket c.in_ok-outcome.outcome c.args.desk.now c.requires.one c.requires.holds c.in_ok-outcome.ensures.outcome;
}
