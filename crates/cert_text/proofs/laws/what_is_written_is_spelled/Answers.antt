use Rattle.cert_text.proofs.Certificates.{spelling_spells}
use Rattle.cert_text.proofs.laws.what_is_written_is_spelled.Goals as goal

pub returns : goal.returns
returns c = spelling_spells
