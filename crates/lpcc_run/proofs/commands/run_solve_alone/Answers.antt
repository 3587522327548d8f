use Rattle.std.proofs.Common.{ap}
use Rattle.engine.specs.Solved.{alone}
use Rattle.lpcc_run.specs.Commands.{by_one_worker}
use Rattle.lpcc_run.proofs.Statuses.{of_solve}
use Rattle.lpcc_run.proofs.commands.run_solve_alone.Goals as goal

pub returns : goal.returns
returns g c =
    let e = c.run_solve.ensures in
    of_solve by_one_worker c.args.settings (alone c.options_of.result) c.style_of.result _ _ _ _ _ _ _ _ (ap alone c.options_of.ensures) c.style_of.ensures e.answered e.verdict e.enough
