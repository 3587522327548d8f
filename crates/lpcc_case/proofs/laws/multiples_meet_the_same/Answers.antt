use Rattle.lpcc_case.proofs.Multiples.{meets-multiple, tight-multiple}
use Rattle.lpcc_case.proofs.laws.multiples_meet_the_same.Goals as goal

pub returns : goal.returns
returns c = record { meets = meets-multiple; tight = tight-multiple }
