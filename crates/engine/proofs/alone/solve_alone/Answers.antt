use Rattle.std.proofs.Common.{ℕ, subst}
use Rattle.engine.specs.Solved.{IsEnded, alone}
use Rattle.engine.proofs.Asides.{ended_pieces, ended_pivots, ended_shown}
use Rattle.engine.proofs.alone.solve_alone.Goals as goal

pub returns-in-Ok-clause-verdict : goal.returns-in-Ok-clause-verdict
returns-in-Ok-clause-verdict c =
    let o = c.args.options.now in
    let ended = subst (λ (n : ℕ). IsEnded c.args.case.now (record o { workers = n }) c.in-Ok.ending) c.one.ensures c.in-Ok.ensures in
    ended_shown c.args.case.now (alone o) c.in-Ok.ending ended

pub returns-in-Ok-clause-pieces : goal.returns-in-Ok-clause-pieces
returns-in-Ok-clause-pieces c =
    let o = c.args.options.now in
    let ended = subst (λ (n : ℕ). IsEnded c.args.case.now (record o { workers = n }) c.in-Ok.ending) c.one.ensures c.in-Ok.ensures in
    ended_pieces c.args.case.now (alone o) c.in-Ok.ending ended

pub returns-in-Ok-clause-pivots : goal.returns-in-Ok-clause-pivots
returns-in-Ok-clause-pivots c =
    let o = c.args.options.now in
    let ended = subst (λ (n : ℕ). IsEnded c.args.case.now (record o { workers = n }) c.in-Ok.ending) c.one.ensures c.in-Ok.ensures in
    ended_pivots c.args.case.now (alone o) c.in-Ok.ending c.pairs-pairs.ensures.kept ended
