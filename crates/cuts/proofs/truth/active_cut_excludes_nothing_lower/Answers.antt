use Rattle.cuts.proofs.CutLaws.{nothing_lower}
use Rattle.cuts.proofs.truth.active_cut_excludes_nothing_lower.Goals as goal

pub returns : goal.returns
returns c = nothing_lower
