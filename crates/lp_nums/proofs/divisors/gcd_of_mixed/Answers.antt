use Rattle.std.proofs.lemmas.Nat.Gcd.{IsGcd-from_mod}
use Rattle.lp_nums.proofs.divisors.gcd_of_mixed.Goals as goal

pub returns : goal.returns
returns c = IsGcd-from_mod c.args.wide c.args.narrow c.gcd_of_narrow.result c.gcd_of_narrow.ensures
