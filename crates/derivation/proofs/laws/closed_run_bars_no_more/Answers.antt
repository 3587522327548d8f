use Rattle.derivation.proofs.Barring.{closed-bars}
use Rattle.derivation.proofs.laws.closed_run_bars_no_more.Goals as goal

pub returns : goal.returns
returns c = closed-bars
