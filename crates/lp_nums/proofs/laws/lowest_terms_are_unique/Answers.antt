use Rattle.lp_nums.proofs.FractionLaws.{unique}
use Rattle.lp_nums.proofs.laws.lowest_terms_are_unique.Goals as goal

pub returns : goal.returns
returns c = unique
