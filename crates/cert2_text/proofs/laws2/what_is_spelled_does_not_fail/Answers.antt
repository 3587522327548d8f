use Rattle.cert2_text.proofs.Clauses2.{not_both}
use Rattle.cert2_text.proofs.laws2.what_is_spelled_does_not_fail.Goals as goal

pub returns : goal.returns
returns c = not_both
