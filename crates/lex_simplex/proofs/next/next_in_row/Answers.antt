use Rattle.lex_simplex.proofs.Nexts.{open_of}
use Rattle.lex_simplex.proofs.next.next_in_row.Goals as goal

pub returns-in-None-leaving : goal.returns-in-None-leaving
returns-in-None-leaving c =
    open_of c.args.case.now c.args.tight.now c.args.stage c.args.dict.now c.args.row _ c.falls.result c.is_down.result c.falls.ensures c.is_down.ensures c.requires.row c.in-Some.ensures.some c.in-None-leaving.ensures.none
