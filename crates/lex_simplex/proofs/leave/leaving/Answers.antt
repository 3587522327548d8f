use Rattle.std.proofs.Common.{◌≡◌, arith, length, subst, Option, Some, None}
use Rattle.lex_simplex.specs.Ratios.{SoonestUpto, best_row}
use Rattle.lex_simplex.specs.declared.leave.Candidate.{Candidate}
use Rattle.lex_simplex.proofs.Leaves.{some_leaves, none_leaves}
use Rattle.lex_simplex.proofs.leave.leaving.Goals as goal

pub returns-in-None-clause-none : goal.returns-in-None-clause-none
returns-in-None-clause-none c =
    let e : c.loop-i.i ≡ length c.args.dict.now.rows = omega (arith, c.loop-i-test.false, c.loop-i.auto.i-end, c.rows-i-end.ensures) in
    none_leaves c.args.case.now c.args.tight.now c.args.stage c.args.dict.now c.args.goal_row c.args.col c.args.down c.loop-i.i None e
    (subst (λ (best : Option Candidate). SoonestUpto c.args.case.now c.args.tight.now c.args.stage c.args.dict.now c.args.goal_row c.args.col c.args.down c.loop-i.i (best_row best)) c.in-None.is c.loop-i.invariant.soonest)

pub returns-in-Some-clause-some : goal.returns-in-Some-clause-some
returns-in-Some-clause-some c =
    let e : c.loop-i.i ≡ length c.args.dict.now.rows = omega (arith, c.loop-i-test.false, c.loop-i.auto.i-end, c.rows-i-end.ensures) in
    some_leaves c.args.case.now c.args.tight.now c.args.stage c.args.dict.now c.args.goal_row c.args.col c.args.down c.loop-i.i (Some c.in-Some.c.row) c.requires.sized e
    (subst (λ (best : Option Candidate). SoonestUpto c.args.case.now c.args.tight.now c.args.stage c.args.dict.now c.args.goal_row c.args.col c.args.down c.loop-i.i (best_row best)) c.in-Some.is c.loop-i.invariant.soonest)
