use Rattle.std.proofs.Common.{sym, subst, ℤ, arith}
use Rattle.std.specs.Prelude.{unsigned_abs}
use Rattle.std.specs.Int.{IsGcd, w128}
use Rattle.std.proofs.lemmas.Int.{ints, to_z_pos}
use Rattle.lp_nums.proofs.GcdLaws.{IsGcd-of_sizes}
use Rattle.lp_nums.proofs.divisors.gcd.Goals as goal

pub overflow_cast-result : goal.overflow_cast-result
overflow_cast-result c =
    let is = IsGcd-of_sizes c.args.a c.args.b c.unsigned_abs.result c.unsigned_abs-2.result c.gcd_of_sizes.result c.unsigned_abs.ensures.value c.unsigned_abs-2.ensures.value c.requires.first c.requires.second c.gcd_of_sizes.ensures in
    omega (arith, ints, is.0)

pub returns-clause-divisor : goal.returns-clause-divisor
returns-clause-divisor c =
    let is = IsGcd-of_sizes c.args.a c.args.b c.unsigned_abs.result c.unsigned_abs-2.result c.gcd_of_sizes.result c.unsigned_abs.ensures.value c.unsigned_abs-2.ensures.value c.requires.first c.requires.second c.gcd_of_sizes.ensures in
    let P : ℤ → Type 0 = λ z. IsGcd (unsigned_abs c.args.a) (unsigned_abs c.args.b) (unsigned_abs z) in
    subst P (sym (to_z_pos w128 c.gcd_of_sizes.result is.0)) is.1

pub returns-clause-not_negative : goal.returns-clause-not_negative
returns-clause-not_negative c =
    let is = IsGcd-of_sizes c.args.a c.args.b c.unsigned_abs.result c.unsigned_abs-2.result c.gcd_of_sizes.result c.unsigned_abs.ensures.value c.unsigned_abs-2.ensures.value c.requires.first c.requires.second c.gcd_of_sizes.ensures in
    omega (arith, ints, is.0)
