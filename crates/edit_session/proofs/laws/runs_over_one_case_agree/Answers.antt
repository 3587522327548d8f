use Rattle.lpcc_case.proofs.VerdictLaws.{same-verdict}
use Rattle.edit_session.proofs.laws.runs_over_one_case_agree.Goals as goal

pub returns : goal.returns
returns c a o p cert other n m v w is_case shown again claims too = same-verdict a v w is_case.scale_positive (shown.truth v claims) (again.truth w too)
