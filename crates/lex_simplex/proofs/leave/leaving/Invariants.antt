use Rattle.lex_simplex.specs.Ratios.{AreCandidates, SoonestUpto, best_row}
use Rattle.lex_simplex.proofs.leave.leaving.Given as goal

abbrev pub invariant-loop-i : goal.invariant-loop-i
invariant-loop-i l = record {
  soonest : SoonestUpto l.case l.tight l.stage l.dict l.goal_row l.col l.down l.i (best_row l.best);
  numbers : AreCandidates l.case l.tight l.stage l.dict l.goal_row l.col l.down l.best;
}
