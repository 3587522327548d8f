use Rattle.std.proofs.Common.{◌<◌, ◌^◌}
use Rattle.basic_solutions.specs.Commons.{IsLeastCommon}
use Rattle.basic_solutions.specs.Readings.{den_in}
use Rattle.basic_solutions.proofs.common.common_denominator.Given as goal

abbrev pub invariant-loop-i : goal.invariant-loop-i
invariant-loop-i l = record {
  least : IsLeastCommon l.i (den_in l.values) l.d;
  small : l.d < 2 ^ 126;
}
