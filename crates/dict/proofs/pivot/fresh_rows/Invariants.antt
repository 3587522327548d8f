use Rattle.dict.proofs.Pivots.{Fresh}
use Rattle.dict.proofs.pivot.fresh_rows.Given as goal

abbrev pub invariant-loop-i : goal.invariant-loop-i
invariant-loop-i l = Fresh l.places l.e l.row l.rows l.entering l.fresh.items l.i
