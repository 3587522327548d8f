use Rattle.lex_simplex.proofs.Steps.{on_exchanged}
use Rattle.lex_simplex.proofs.walk.exchange.Goals as goal

pub returns-clause-exchanged : goal.returns-clause-exchanged
returns-clause-exchanged c =
    let e = c.pivot.ensures in
    on_exchanged c.pivot.result c.args.case.now c.args.row c.args.col c.args.dict.now c.pivot.new.self c.requires.sized e.basic e.nonbasic e.size e.rows e.keeps
