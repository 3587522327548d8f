use Rattle.std.proofs.Common.{◌<◌, ◌^◌}
use Rattle.basic_solutions.specs.Commons.{IsGreatestCommon}
use Rattle.basic_solutions.specs.Readings.{size_in}
use Rattle.basic_solutions.proofs.common.common_numerator.Given as goal

abbrev pub invariant-loop-i : goal.invariant-loop-i
invariant-loop-i l = record {
  greatest : IsGreatestCommon l.i (size_in l.values) l.g;
  small : l.g < 2 ^ 63;
}
