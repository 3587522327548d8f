use Rattle.std.proofs.lemmas.Bool.{both_ways}
use Rattle.lex_simplex.proofs.Leaves.{soonest_new, soonest_old}
use Rattle.lex_simplex.proofs.leave.sooner_of_both.Goals as goal

pub returns-then-sooner-clause-soonest : goal.returns-then-sooner-clause-soonest
returns-then-sooner-clause-soonest c =
    soonest_new c.args.case.now c.args.tight.now c.args.stage c.args.dict.now c.args.goal_row c.args.col c.args.down c.args.c.row c.args.b.row c.requires.c.blocks (c.sooner.ensures.0 c.if-sooner.true) c.requires.soonest

pub returns-else-sooner-clause-soonest : goal.returns-else-sooner-clause-soonest
returns-else-sooner-clause-soonest c =
    soonest_old c.args.case.now c.args.tight.now c.args.stage c.args.dict.now c.args.goal_row c.args.col c.args.down c.args.c.row c.args.b.row (λ s. both_ways c.sooner.result c.if-sooner.false (c.sooner.ensures.1 s)) c.requires.soonest
