use Rattle.std.proofs.Common.{◌≤◌, arith, rules, sym, FitsSigned}
use Rattle.std.specs.Prelude.{unsigned_abs}
use mir.Syntax.{w128}
use Rattle.deck_case.specs.Multipliers.{times}
use Rattle.deck_case.proofs.Wholes.{narrow_wide, times_wide}
use Rattle.deck_case.proofs.numbers.whole.Goals as goal

pub returns-then-unsigned_abs-gt-LARGEST_OF_CASE : goal.returns-then-unsigned_abs-gt-LARGEST_OF_CASE
returns-then-unsigned_abs-gt-LARGEST_OF_CASE c =
    let fits : FitsSigned w128 c.num.result = search rules in
    let size : c.unsigned_abs.result ≤ unsigned_abs (times c.args.multiplier c.args.number) = times_wide c.args.multiplier c.unsigned_abs.result c.args.number c.num.result c.requires.positive c.num.ensures.lowest.positive c.requires.clears.divides c.num.ensures.value fits c.unsigned_abs.ensures.value in
    sym (narrow_wide (times c.args.multiplier c.args.number) (omega (arith, size, c.if-unsigned_abs-gt-LARGEST_OF_CASE.true)))
