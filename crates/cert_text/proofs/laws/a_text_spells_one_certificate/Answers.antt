use Rattle.cert_text.proofs.Clauses.{one_certificate}
use Rattle.cert_text.proofs.laws.a_text_spells_one_certificate.Goals as goal

pub returns : goal.returns
returns c = one_certificate
