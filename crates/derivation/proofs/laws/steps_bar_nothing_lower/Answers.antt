use Rattle.derivation.proofs.LogLaws.{steps-nothing_lower, empty-nothing_lower}
use Rattle.derivation.proofs.laws.steps_bar_nothing_lower.Goals as goal

pub returns : goal.returns
returns c = record { steps = steps-nothing_lower; points = empty-nothing_lower }
