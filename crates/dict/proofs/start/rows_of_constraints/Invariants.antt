use Rattle.std.proofs.Common.{◌≡◌, ◌++◌, drop, map}
use Rattle.dict.specs.Forms.{constraint_row}
use Rattle.dict.proofs.start.rows_of_constraints.Given as goal

abbrev pub invariant-loop-constraint : goal.invariant-loop-constraint
invariant-loop-constraint l = l.rows.items ++ map constraint_row (drop l.constraint-index l.constraints) ≡ map constraint_row l.constraints
