-- What settles a drawn piece.
use Rattle.std.specs.Prelude.{◌≡◌, List}
use Rattle.nogoods.specs.declared.choice.Side.{Side}
use Rattle.lpcc_case.specs.Instance.{Instance}
use Rattle.play.specs.declared.event.Options.{Options}
use Rattle.play.specs.declared.event.Ticket.{Ticket}
use Rattle.play.specs.declared.outcome.Outcome.{Outcome}
use Rattle.play.specs.Lawful.{MaySettle, OutcomeFits}
use Rattle.play.specs.Causes.{IsTrueOutcome}

-- an outcome by which a ticket of this piece may be settled
pub record IsOutcomeOf (a : Instance) (o : Options) (piece : List Side) (what : Outcome) : Type 0 where
  pub fits : OutcomeFits a o.workers what
  pub may : (t : Ticket) → t.piece ≡ piece → MaySettle a t what
  pub true_outcome : (t : Ticket) → t.piece ≡ piece → IsTrueOutcome a o t what
