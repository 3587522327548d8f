use Rattle.walks.specs.Steps.{MayExchange}
use Rattle.lex_simplex.specs.Firsts.{FirstAmong}
use Rattle.lex_simplex.proofs.enter.exchangeable.Given as goal

abbrev pub invariant-loop-i : goal.invariant-loop-i
invariant-loop-i l = FirstAmong l.case l.dict.nonbasic l.entries (MayExchange l.case l.tight l.dict l.row) l.i l.best
