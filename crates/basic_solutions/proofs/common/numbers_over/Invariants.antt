use Rattle.basic_solutions.specs.Readings.{AreNumbersUpto}
use Rattle.basic_solutions.proofs.common.numbers_over.Given as goal

abbrev pub invariant-loop-i : goal.invariant-loop-i
invariant-loop-i l = AreNumbersUpto l.values l.g l.d l.numbers.items l.i
