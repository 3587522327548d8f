use Rattle.lex_simplex.proofs.Nexts.{raised_of_none}
use Rattle.lex_simplex.proofs.next.next_raising.Goals as goal

pub returns-in-None : goal.returns-in-None
returns-in-None c = raised_of_none c.args.case.now c.args.tight.now c.args.stage c.args.dict.now c.requires.sized c.requires.stage c.in-None.ensures.none
