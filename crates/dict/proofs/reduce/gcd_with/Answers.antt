use Rattle.std.proofs.Common.{arith, ◌≡◌, pos}
use Rattle.std.proofs.lemmas.Int.{ints, to_z-of_z}
use mir.Syntax.{w128}
use Rattle.dict.proofs.Commons.{gcd_one, gcd_again}
use Rattle.dict.proofs.reduce.gcd_with.Goals as goal

pub returns-then-g-eq1-clause-divisor : goal.returns-then-g-eq1-clause-divisor
returns-then-g-eq1-clause-divisor c =
    let e : c.args.g ≡ pos 1 = omega (arith, ints, c.if-g-eq1.true, to_z-of_z w128 c.args.g c.ranges.g) in
    gcd_one c.args.g c.args.z e

pub returns-else-g-eq1-clause-divisor : goal.returns-else-g-eq1-clause-divisor
returns-else-g-eq1-clause-divisor c = (gcd_again c.args.g c.args.z c.gcd.result c.requires.positive c.requires.small c.requires.number c.gcd.ensures.not_negative c.gcd.ensures.divisor).divisor

pub returns-else-g-eq1-clause-positive : goal.returns-else-g-eq1-clause-positive
returns-else-g-eq1-clause-positive c = (gcd_again c.args.g c.args.z c.gcd.result c.requires.positive c.requires.small c.requires.number c.gcd.ensures.not_negative c.gcd.ensures.divisor).positive

pub returns-else-g-eq1-clause-small : goal.returns-else-g-eq1-clause-small
returns-else-g-eq1-clause-small c = (gcd_again c.args.g c.args.z c.gcd.result c.requires.positive c.requires.small c.requires.number c.gcd.ensures.not_negative c.gcd.ensures.divisor).small
