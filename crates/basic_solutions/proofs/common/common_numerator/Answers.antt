use Rattle.std.proofs.Common.{ℕ, ◌^◌, subst, arith}
use Rattle.std.specs.Int.{IsGcd}
use Rattle.lp_nums.proofs.GcdLaws.{IsGcd-below}
use Rattle.basic_solutions.specs.Readings.{size_in}
use Rattle.basic_solutions.proofs.Coprimes.{greatest_more}
use Rattle.basic_solutions.proofs.common.common_numerator.Goals as goal

pub loop-i-preserved : goal.loop-i-preserved
loop-i-preserved c =
    let i = c.loop-i.i in
    let p = size_in c.args.values.now in
    let is : IsGcd c.loop-i.g (p i) c.gcd_of-g.result = subst (λ (n : ℕ). IsGcd c.loop-i.g n c.gcd_of-g.result) c.size_at.ensures c.gcd_of-g.ensures in
    record {
      greatest = greatest_more i p c.loop-i.g c.gcd_of-g.result c.loop-i.invariant.greatest is;
      small = IsGcd-below c.loop-i.g (p i) c.gcd_of-g.result (2 ^ 63) c.loop-i.invariant.small (c.requires i (omega (arith, c.loop-i-test.true))).1 is;
    }
