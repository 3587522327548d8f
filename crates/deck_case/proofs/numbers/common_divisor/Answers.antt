use Rattle.std.proofs.Common.{arith, rules, subst, sym, FitsSigned}
use mir.Syntax.{w128}
use Rattle.std.specs.Int.{IsGcd}
use Rattle.std.proofs.lemmas.Int.{ints}
use Rattle.std.proofs.lemmas.Nat.Gcd.{le_of_dvd}
use Rattle.deck_case.proofs.Wholes.{divisor_read}
use Rattle.deck_case.proofs.numbers.common_divisor.Goals as goal

pub overflow_cast-result : goal.overflow_cast-result
overflow_cast-result c =
    let fits : FitsSigned w128 c.gcd.result = search rules in
    let h = divisor_read c.args.a c.args.b _ _ c.gcd.result (omega (arith, ints, c.from.ensures, c.ranges.a)) (omega (arith, ints, c.from-2.ensures, c.ranges.b)) fits c.gcd.ensures.divisor in
    let small = le_of_dvd c.requires h.0 in
    omega (arith, ints, small, c.unsigned_abs.ensures.value, c.ranges.a)

pub returns : goal.returns
returns c =
    let fits : FitsSigned w128 c.gcd.result = search rules in
    let h = divisor_read c.args.a c.args.b _ _ c.gcd.result (omega (arith, ints, c.from.ensures, c.ranges.a)) (omega (arith, ints, c.from-2.ensures, c.ranges.b)) fits c.gcd.ensures.divisor in
    subst (λ n. IsGcd c.args.a c.args.b n) (sym c.unsigned_abs.ensures.value) h
