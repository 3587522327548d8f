use Rattle.cert_check.proofs.Truth.{accepted_true}
use Rattle.cert_check.proofs.laws.accepted_verdicts_are_true.Goals as goal

pub returns : goal.returns
returns c = accepted_true
