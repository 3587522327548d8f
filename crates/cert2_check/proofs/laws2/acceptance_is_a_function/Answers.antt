use Rattle.cert2_check.proofs.Answering2.{one_verdict_any, one_refusal, not_both_any}
use Rattle.cert2_check.proofs.laws2.acceptance_is_a_function.Goals as goal

pub returns-clause-one_verdict : goal.returns-clause-one_verdict
returns-clause-one_verdict c = one_verdict_any

pub returns-clause-one_refusal : goal.returns-clause-one_refusal
returns-clause-one_refusal c = one_refusal

pub returns-clause-not_both : goal.returns-clause-not_both
returns-clause-not_both c = not_both_any
