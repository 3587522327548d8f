use Rattle.cuts.proofs.CutLaws.{bars_nothing_lower}
use Rattle.cuts.proofs.truth.passed_cut_bars_nothing_lower.Goals as goal

pub returns : goal.returns
returns c = bars_nothing_lower
