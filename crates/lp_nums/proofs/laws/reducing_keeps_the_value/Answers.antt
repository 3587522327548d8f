use Rattle.lp_nums.proofs.FractionLaws.{reduced_parts}
use Rattle.lp_nums.proofs.laws.reducing_keeps_the_value.Goals as goal

pub returns : goal.returns
returns c = reduced_parts
