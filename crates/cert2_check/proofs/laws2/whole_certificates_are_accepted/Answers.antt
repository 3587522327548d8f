use Rattle.cert2_check.proofs.Wholly.{whole_accepted}
use Rattle.cert2_check.proofs.laws2.whole_certificates_are_accepted.Goals as goal

pub returns : goal.returns
returns c = whole_accepted
