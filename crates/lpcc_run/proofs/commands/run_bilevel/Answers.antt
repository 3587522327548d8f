use Rattle.std.proofs.Common.{ap}
use Rattle.engine.specs.Solved.{alone}
use Rattle.lpcc_run.specs.Commands.{by_one_worker}
use Rattle.lpcc_run.proofs.Statuses.{of_bilevel}
use Rattle.lpcc_run.proofs.commands.run_bilevel.Goals as goal

pub returns-then-solve : goal.returns-then-solve
returns-then-solve g c =
    let e = c.solve_bilevel.ensures in
    of_bilevel by_one_worker c.args.solve (alone c.usual.result) _ _ _ _ _ _ _ _ c.if-solve.true (ap alone c.usual.ensures) e.answered e.solved
