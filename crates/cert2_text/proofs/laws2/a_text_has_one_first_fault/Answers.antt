use Rattle.cert2_text.proofs.Clauses2.{one_fault}
use Rattle.cert2_text.proofs.laws2.a_text_has_one_first_fault.Goals as goal

pub returns : goal.returns
returns c = one_fault
