use Rattle.play.specs.declared.outcome.Cause.TheVariants as cause
use Rattle.play.specs.declared.ending.Ending.TheVariants as ending
use Rattle.engine.proofs.Asides.{named_cause, solved_pivots}
use Rattle.engine.proofs.Endings.{ending_accepted, ending_true, ending_number, ending_distinct, solved_pieces}
use Rattle.engine.proofs.laws.solved_verdicts_are_shown.Goals as goal

pub returns : goal.returns
returns c = record {
  accepted = ending_accepted;
  truth = ending_true;
  number = ending_number;
  distinct = ending_distinct;
  pieces = solved_pieces;
  pivots = solved_pivots;
  overflow = λ a o xs piece at e. named_cause a o xs (ending.Overflow piece at) e e.row.0 piece (cause.Wide at) e.row.1.among;
  spent = λ a o xs piece at e. named_cause a o xs (ending.PivotsSpent piece at) e e.row.0 piece (cause.Spent at) e.row.1.among;
}
