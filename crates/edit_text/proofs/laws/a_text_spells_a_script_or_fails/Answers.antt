use Rattle.edit_text.proofs.Clauses.{one_of_both}
use Rattle.edit_text.proofs.laws.a_text_spells_a_script_or_fails.Goals as goal

pub returns : goal.returns
returns c = one_of_both
