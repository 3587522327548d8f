use Rattle.std.proofs.Common.{◌≤◌, arith, rules, sym, FitsSigned}
use Rattle.std.specs.Prelude.{unsigned_abs}
use mir.Syntax.{w128}
use Rattle.deck_case.specs.Multipliers.{times}
use Rattle.deck_case.specs.Steps.{far_end}
use Rattle.deck_case.proofs.Wholes.{far_wide, narrow_wide, times_wide}
use Rattle.deck_case.proofs.numbers.far_end.Goals as goal

pub returns-then-unsigned_abs : goal.returns-then-unsigned_abs
returns-then-unsigned_abs c =
    let fits : FitsSigned w128 c.num.result = search rules in
    let t = times c.args.multiplier c.args.range in
    let size : c.unsigned_abs.result ≤ unsigned_abs (times c.args.multiplier c.args.range) = times_wide c.args.multiplier c.unsigned_abs.result c.args.range c.num.result c.requires.positive c.num.ensures.lowest.positive c.requires.clears.divides c.num.ensures.value fits c.unsigned_abs.ensures.value in
    sym (narrow_wide (far_end c.args.near c.args.down t) (far_wide c.args.near t c.args.down c.requires.near (omega (arith, size, c.if-unsigned_abs.true))))
