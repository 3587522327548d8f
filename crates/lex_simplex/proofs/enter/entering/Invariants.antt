use Rattle.dict.specs.Dictionaries.{form_at, entry_at}
use Rattle.walks.specs.Duals.{Helps}
use Rattle.lex_simplex.specs.Firsts.{FirstAmong}
use Rattle.lex_simplex.proofs.enter.entering.Given as goal

abbrev pub invariant-loop-i : goal.invariant-loop-i
invariant-loop-i l = FirstAmong l.case l.dict.nonbasic l.entries (λ j. Helps l.case l.tight l.falls (form_at l.dict.nonbasic j) (entry_at l.dict l.row j)) l.i l.best
