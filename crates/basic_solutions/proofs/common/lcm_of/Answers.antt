use Rattle.std.proofs.Common.{◌*◌, ◌/◌, ◌<◌, ◌^◌, ◌-◌, arith}
use Rattle.std.proofs.Math.Nat.{pos_of_dvd_of_pos}
use Rattle.basic_solutions.proofs.Coprimes.{lcm_is}
use Rattle.basic_solutions.proofs.Machine.{quotient_positive, past_quotient}
use Rattle.basic_solutions.proofs.common.lcm_of.Goals as goal

pub nonzero_div-rest : goal.nonzero_div-rest
nonzero_div-rest c =
    let g : 0 < c.gcd_of.result = pos_of_dvd_of_pos c.gcd_of.ensures.1 c.requires.second in
    omega (arith, g)

pub nonzero_div-rest-2 : goal.nonzero_div-rest-2
nonzero_div-rest-2 c =
    let r : 0 < c.args.b / c.gcd_of.result = quotient_positive c.args.b c.gcd_of.result c.requires.second c.gcd_of.ensures.1 in
    omega (arith, r)

pub returns-then-a-rest-clause-none : goal.returns-then-a-rest-clause-none
returns-then-a-rest-clause-none c =
    let r = c.args.b / c.gcd_of.result in
    let large : 2 ^ 126 - 1 < c.args.a * r = past_quotient (2 ^ 126 - 1) r c.args.a (quotient_positive c.args.b c.gcd_of.result c.requires.second c.gcd_of.ensures.1) c.if-a-rest.true in
    (c.args.a * r, lcm_is c.args.a c.args.b c.gcd_of.result c.requires.first c.requires.second c.gcd_of.ensures, omega (arith, large))

pub returns-clause-lcm : goal.returns-clause-lcm
returns-clause-lcm c = lcm_is c.args.a c.args.b c.gcd_of.result c.requires.first c.requires.second c.gcd_of.ensures
