use Rattle.cert2_text.proofs.Certificates2.{spelling_spells}
use Rattle.cert2_text.proofs.laws2.what_is_written_is_spelled.Goals as goal

pub returns : goal.returns
returns c = spelling_spells
