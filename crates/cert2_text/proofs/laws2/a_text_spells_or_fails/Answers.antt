use Rattle.cert2_text.proofs.Clauses2.{one_of_both}
use Rattle.cert2_text.proofs.laws2.a_text_spells_or_fails.Goals as goal

pub returns : goal.returns
returns c = one_of_both
