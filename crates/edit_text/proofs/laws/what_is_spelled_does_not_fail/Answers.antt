use Rattle.edit_text.proofs.Clauses.{not_both}
use Rattle.edit_text.proofs.laws.what_is_spelled_does_not_fail.Goals as goal

pub returns : goal.returns
returns c = not_both
