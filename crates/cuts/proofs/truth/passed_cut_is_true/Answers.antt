use Rattle.cuts.proofs.CutLaws.{cut_is_true}
use Rattle.cuts.proofs.truth.passed_cut_is_true.Goals as goal

pub returns : goal.returns
returns c = cut_is_true
