use Rattle.lex_simplex.specs.Firsts.{FirstAmong, HasEps}
use Rattle.lex_simplex.proofs.values.first_loose.Given as goal

abbrev pub invariant-loop-i : goal.invariant-loop-i
invariant-loop-i l = FirstAmong l.case l.dict.nonbasic l.entries (HasEps l.case l.tight l.dict l.row) l.i l.best
