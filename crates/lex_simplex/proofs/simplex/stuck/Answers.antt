use Rattle.std.proofs.Common.{◌≡◌, arith, length}
use Rattle.lex_simplex.proofs.EndLaws.{none_for_cost}
use Rattle.lex_simplex.proofs.simplex.stuck.Goals as goal

pub lowest-requires-clause-none : goal.lowest-requires-clause-none
lowest-requires-clause-none c =
    let last : c.args.walk.now.stage ≡ length c.args.case.now.constraints = omega (arith, c.requires.end.0.1, c.if-stage-constraints_of.false, c.stage.ensures, c.constraints_of.ensures.value) in
    none_for_cost c.args.case.now c.args.tight.now c.args.walk.now c.args.row c.constraints-constraints.ensures.kept c.requires.on last c.requires.end.1 c.requires.end.2

pub returns-then-stage-constraints_of : goal.returns-then-stage-constraints_of
returns-then-stage-constraints_of c = c.infeasible.ensures c.args.pivots

pub returns-else-stage-constraints_of : goal.returns-else-stage-constraints_of
returns-else-stage-constraints_of c = c.lowest.ensures c.args.pivots
