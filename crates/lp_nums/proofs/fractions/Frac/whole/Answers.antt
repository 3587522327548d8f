use Rattle.lp_nums.proofs.FractionLaws.{reduced_whole}
use Rattle.lp_nums.proofs.fractions.Frac.whole.Goals as goal

pub invariant_of-result : goal.invariant_of-result
invariant_of-result c = reduced_whole c.args.num c.ranges.num
