use Rattle.std.proofs.Common.{◌≤◌}
use Rattle.lex_simplex.specs.Ratios.{AreSeen, IsEarliest}
use Rattle.lex_simplex.proofs.tie.earliest_in.Given as goal

abbrev pub invariant-loop-i : goal.invariant-loop-i
invariant-loop-i l = record {
  kept : IsEarliest l.case l.tight l.dict l.col l.down l.c.row l.b.row l.best;
  lower : l.best.constraint ≤ l.fn.e.constraint;
  seen : AreSeen l.case l.tight l.dict l.col l.down l.c.row l.b.row l.best l.row l.i;
}
