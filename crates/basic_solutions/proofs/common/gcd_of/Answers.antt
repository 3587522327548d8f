use Rattle.std.proofs.Common.{rules, FitsSigned}
use mir.Syntax.{w128}
use Rattle.basic_solutions.proofs.Machine.{gcd_read}
use Rattle.basic_solutions.proofs.common.gcd_of.Goals as goal

pub returns : goal.returns
returns c =
    let fits : FitsSigned w128 c.gcd.result = search rules in
    gcd_read c.args.a c.args.b c.unsigned_abs.result c.gcd.result c.requires.first c.requires.second fits c.gcd.ensures.divisor c.unsigned_abs.ensures.value
