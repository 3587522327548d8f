use Rattle.derivation.proofs.LogLaws.{closed-true}
use Rattle.derivation.proofs.laws.closed_run_bars_only_empty_pieces.Goals as goal

pub returns : goal.returns
returns c = closed-true
