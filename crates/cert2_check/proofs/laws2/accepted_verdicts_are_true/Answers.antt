use Rattle.cert2_check.proofs.Wholly.{accepted_any_true}
use Rattle.cert2_check.proofs.laws2.accepted_verdicts_are_true.Goals as goal

pub returns : goal.returns
returns c = accepted_any_true
