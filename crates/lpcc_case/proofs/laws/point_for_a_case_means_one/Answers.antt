use Rattle.lpcc_case.proofs.Meanings.{means_one}
use Rattle.lpcc_case.proofs.laws.point_for_a_case_means_one.Goals as goal

pub returns : goal.returns
returns c = means_one
