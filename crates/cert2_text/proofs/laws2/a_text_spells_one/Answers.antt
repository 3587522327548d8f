use Rattle.cert2_text.proofs.Clauses2.{one_certificate}
use Rattle.cert2_text.proofs.laws2.a_text_spells_one.Goals as goal

pub returns : goal.returns
returns c = one_certificate
