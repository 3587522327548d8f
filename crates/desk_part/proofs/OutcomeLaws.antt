-- What an outcome leaves as it is.
use Rattle.std.proofs.Common.{◌≡◌, refl}
use Rattle.play.specs.declared.event.Ticket.{Ticket}
use Rattle.play.specs.declared.outcome.Outcome.{Outcome}
use Rattle.play.specs.declared.outcome.Outcome.TheVariants as outcome
use Rattle.play.specs.Parts.{Part}
use Rattle.play.specs.Steps.{take_outcome}

pub outcome_flight : (d : Part) (t : Ticket) (what : Outcome) → (take_outcome t what d).flight ≡ d.flight
outcome_flight d t (outcome.Cut c kept best) = refl
outcome_flight d t (outcome.Barred lane place c best) = refl
outcome_flight d t (outcome.Unbounded point ray) = refl
outcome_flight d t (outcome.Wide at) = refl
outcome_flight d t (outcome.Spent at) = refl

pub outcome_drawn : (d : Part) (t : Ticket) (what : Outcome) → (take_outcome t what d).drawn ≡ d.drawn
outcome_drawn d t (outcome.Cut c kept best) = refl
outcome_drawn d t (outcome.Barred lane place c best) = refl
outcome_drawn d t (outcome.Unbounded point ray) = refl
outcome_drawn d t (outcome.Wide at) = refl
outcome_drawn d t (outcome.Spent at) = refl
