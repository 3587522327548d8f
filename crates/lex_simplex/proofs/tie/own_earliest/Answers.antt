use Rattle.std.proofs.Common.{arith}
use Rattle.lex_simplex.proofs.Ties.{earliest_own, earliest_other}
use Rattle.lex_simplex.proofs.tie.own_earliest.Goals as goal

pub returns-then-own-other : goal.returns-then-own-other
returns-then-own-other c = earliest_own c.args.case.now c.args.tight.now c.args.stage c.args.dict.now c.args.goal_row c.args.col c.args.down c.args.c c.args.b c.constraint_in-own.result c.constraint_in-other.result c.requires.sized c.requires.c c.requires.b c.requires.apart c.constraint_in-own.ensures c.constraint_in-other.ensures (omega (arith, c.if-own-other.true))

pub returns-else-own-other : goal.returns-else-own-other
returns-else-own-other c = earliest_other c.args.case.now c.args.tight.now c.args.stage c.args.dict.now c.args.goal_row c.args.col c.args.down c.args.c c.args.b c.constraint_in-own.result c.constraint_in-other.result c.requires.sized c.requires.c c.requires.b c.requires.apart c.constraint_in-own.ensures c.constraint_in-other.ensures (omega (arith, c.if-own-other.false))
