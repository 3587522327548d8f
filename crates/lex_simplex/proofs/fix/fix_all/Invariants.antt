use Rattle.std.proofs.Common.{◌≡◌}
use Rattle.walks.specs.Walks.{IsOnWalk}
use Rattle.lex_simplex.proofs.fix.fix_all.Given as goal

abbrev pub invariant-loop : goal.invariant-loop
invariant-loop l = record {
  on : IsOnWalk l.case l.tight l.walk;
  looked : l.walk.looked ≡ l.counter;
  stage : l.walk.stage ≡ l.fn.walk.stage;
  pivots : l.walk.pivots ≡ l.fn.walk.pivots;
}
