use Rattle.std.proofs.Common.{◌*ℤ◌, to_z, of_z}
use mir.Syntax.{w128}
use Rattle.deck_case.proofs.Wholes.{IsTimes, times_read}
use Rattle.deck_case.proofs.numbers.times.Goals as goal

made : (c : goal.After-from) → IsTimes c.args.multiplier c.args.number (to_z w128 (of_z w128 c.num.result) *ℤ to_z w128 (of_z w128 c.from.result))
made c =
    times_read c.args.multiplier c.den_of.result c.args.number c.num.result c.from.result c.num.ensures.value c.from.ensures c.den_of.ensures.value c.num.ensures.lowest.positive c.requires.clears.divides c.requires.narrow c.requires.room

pub overflow_mul-result : goal.overflow_mul-result
overflow_mul-result c = (made c).fits

pub returns-clause-value : goal.returns-clause-value
returns-clause-value c = (made c).value

pub returns-clause-room : goal.returns-clause-room
returns-clause-room c = (made c).room
