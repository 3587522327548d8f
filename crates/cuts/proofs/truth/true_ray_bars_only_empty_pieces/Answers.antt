use Rattle.cuts.proofs.CutLaws.{ray_bars_only_empty}
use Rattle.cuts.proofs.truth.true_ray_bars_only_empty_pieces.Goals as goal

pub returns : goal.returns
returns c = ray_bars_only_empty
