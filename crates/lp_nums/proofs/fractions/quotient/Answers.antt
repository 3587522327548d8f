use Rattle.lp_nums.proofs.FractionLaws.{divided}
use Rattle.lp_nums.proofs.fractions.quotient.Goals as goal

pub returns-clause-value : goal.returns-clause-value
returns-clause-value c = divided c.args.n c.args.divisor c.ranges.n c.ranges.divisor c.requires.positive c.requires.divides
