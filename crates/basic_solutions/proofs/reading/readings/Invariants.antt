use Rattle.basic_solutions.specs.Readings.{AreReadUpto}
use Rattle.basic_solutions.proofs.reading.readings.Given as goal

abbrev pub invariant-loop-row : goal.invariant-loop-row
invariant-loop-row l = AreReadUpto l.case l.dict l.go l.values.items l.row
