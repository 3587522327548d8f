use Rattle.derivation.proofs.LogLaws.{closed-nothing_lower}
use Rattle.derivation.proofs.laws.closed_run_bars_nothing_lower.Goals as goal

pub returns : goal.returns
returns c = closed-nothing_lower
