use Rattle.lex_simplex.proofs.Ties.{candidate_is}
use Rattle.lex_simplex.proofs.leave.candidate_of.Goals as goal

pub returns-clause-candidate : goal.returns-clause-candidate
returns-clause-candidate c =
    candidate_is c.args.case.now c.args.tight.now c.args.stage c.args.dict.now c.args.goal_row c.args.col c.args.down c.args.i c.args.speed c.turned.result c.turned-2.result c.constant.result c.requires.i c.requires.speed c.requires.narrow c.requires.blocks c.turned.ensures.value c.turned.ensures.narrow c.constant.ensures.value c.constant.ensures.narrow c.turned-2.ensures.value c.turned-2.ensures.narrow
