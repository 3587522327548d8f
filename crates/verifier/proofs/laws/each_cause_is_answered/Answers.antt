use Rattle.verifier.proofs.Statuses.{accepted_yes, answered}
use Rattle.verifier.proofs.laws.each_cause_is_answered.Goals as goal

pub returns : goal.returns
returns c = record { answer = answered; accepted = accepted_yes }
