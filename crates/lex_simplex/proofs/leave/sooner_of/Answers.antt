use Rattle.std.proofs.Common.{ℕ, ◌+◌, subst, sym, Option, Some}
use Rattle.walks.specs.Steps.{Blocks}
use Rattle.lex_simplex.specs.Ratios.{SoonestUpto, best_row}
use Rattle.lex_simplex.specs.declared.leave.Candidate.{Candidate}
use Rattle.lex_simplex.proofs.Leaves.{soonest_stays, soonest_found}
use Rattle.lex_simplex.proofs.leave.sooner_of.Goals as goal

pub returns-in-None-clause-soonest : goal.returns-in-None-clause-soonest
returns-in-None-clause-soonest c =
    soonest_stays c.args.case.now c.args.tight.now c.args.stage c.args.dict.now c.args.goal_row c.args.col c.args.down c.args.i (best_row c.args.best) c.in-None.ensures.none c.requires.best

pub returns-in-None-best-clause-soonest : goal.returns-in-None-best-clause-soonest
returns-in-None-best-clause-soonest c =
    let a = c.args.case.now in
    let t = c.args.tight.now in
    let d = c.args.dict.now in
    subst (λ (n : ℕ). SoonestUpto a t c.args.stage d c.args.goal_row c.args.col c.args.down (c.args.i + 1) (Some n)) (sym c.in-Some.ensures.row)
    (soonest_found a t c.args.stage d c.args.goal_row c.args.col c.args.down c.args.i
    (subst (λ (n : ℕ). Blocks a t c.args.stage d c.args.goal_row c.args.col c.args.down n) c.in-Some.ensures.row c.in-Some.ensures.some.blocks)
    (subst (λ (best : Option Candidate). SoonestUpto a t c.args.stage d c.args.goal_row c.args.col c.args.down c.args.i (best_row best)) c.in-None-best.is c.requires.best))

pub sooner_of_both-requires-clause-soonest : goal.sooner_of_both-requires-clause-soonest
sooner_of_both-requires-clause-soonest c =
    let a = c.args.case.now in
    let t = c.args.tight.now in
    let d = c.args.dict.now in
    subst (λ (n : ℕ). SoonestUpto a t c.args.stage d c.args.goal_row c.args.col c.args.down n (Some c.in-Some-best.b.row)) (sym c.in-Some.ensures.row)
    (subst (λ (best : Option Candidate). SoonestUpto a t c.args.stage d c.args.goal_row c.args.col c.args.down c.args.i (best_row best)) c.in-Some-best.is c.requires.best)
