use Rattle.edit_text.proofs.Clauses.{one_script}
use Rattle.edit_text.proofs.laws.a_text_spells_one_script.Goals as goal

pub returns : goal.returns
returns c = one_script
