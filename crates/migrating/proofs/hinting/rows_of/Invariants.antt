use Rattle.migrating.specs.Making.{AreRows}
use Rattle.migrating.proofs.hinting.rows_of.Given as goal

abbrev pub invariant-loop-line : goal.invariant-loop-line
invariant-loop-line l = AreRows l.last l.line l.rows.items
