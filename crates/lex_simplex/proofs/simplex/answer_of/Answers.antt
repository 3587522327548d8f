use Rattle.std.proofs.Common.{subst}
use Rattle.lex_simplex.specs.Rounds.{IsEnd}
use Rattle.lex_simplex.specs.declared.walk.End.{End}
use Rattle.lex_simplex.proofs.EndLaws.{open_is_last}
use Rattle.lex_simplex.proofs.simplex.answer_of.Goals as goal

pub unbounded-requires-clause-last : goal.unbounded-requires-clause-last
unbounded-requires-clause-last c =
    let e = subst (λ (e : End). IsEnd c.args.case.now c.args.tight.now c.args.pivots c.args.walk.now e) c.in-Open.is c.requires.end in
    open_is_last c.args.case.now c.args.tight.now c.args.walk.now c.in-Open.row c.in-Open.col e.0 e.1 e.2 e.3

pub returns-in-Inconsistent : goal.returns-in-Inconsistent
returns-in-Inconsistent c = c.inconsistent.ensures c.args.pivots

pub returns-in-Open : goal.returns-in-Open
returns-in-Open c = c.unbounded.ensures c.args.pivots
