use Rattle.cert_check.proofs.Single.{one_verdict, one_refusal, not_both}
use Rattle.cert_check.proofs.laws.acceptance_is_a_function.Goals as goal

pub returns-clause-one_verdict : goal.returns-clause-one_verdict
returns-clause-one_verdict c = one_verdict

pub returns-clause-one_refusal : goal.returns-clause-one_refusal
returns-clause-one_refusal c = one_refusal

pub returns-clause-not_both : goal.returns-clause-not_both
returns-clause-not_both c = not_both
