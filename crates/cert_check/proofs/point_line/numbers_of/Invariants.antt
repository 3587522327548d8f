use Rattle.std.proofs.Common.{take}
use Rattle.cert_check.proofs.Dense.{AreWritten}
use Rattle.cert_check.proofs.point_line.numbers_of.Given as goal

abbrev pub invariant-loop-term : goal.invariant-loop-term
invariant-loop-term l = AreWritten l.case.columns l.numbers.items (take l.term-index l.terms)
