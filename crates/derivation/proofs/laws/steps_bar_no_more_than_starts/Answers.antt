use Rattle.derivation.proofs.LogLaws.{steps-by_start}
use Rattle.derivation.proofs.laws.steps_bar_no_more_than_starts.Goals as goal

pub returns : goal.returns
returns c = steps-by_start
