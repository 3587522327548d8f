use Rattle.lpcc_case.proofs.VerdictLaws.{same-verdict}
use Rattle.lpcc_case.proofs.laws.true_verdicts_are_the_same.Goals as goal

pub returns : goal.returns
returns c = same-verdict
