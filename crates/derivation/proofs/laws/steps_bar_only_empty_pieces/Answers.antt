use Rattle.derivation.proofs.LogLaws.{steps-true}
use Rattle.derivation.proofs.laws.steps_bar_only_empty_pieces.Goals as goal

pub returns : goal.returns
returns c = steps-true
