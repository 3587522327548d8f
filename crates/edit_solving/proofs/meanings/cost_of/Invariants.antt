use Rattle.std.proofs.Common.{take}
use Rattle.cert_check.proofs.Dense.{AreWritten}
use Rattle.edit_solving.proofs.meanings.cost_of.Given as goal

abbrev pub invariant-loop-term : goal.invariant-loop-term
invariant-loop-term l = AreWritten l.columns l.cost.items (take l.term-index l.terms)
