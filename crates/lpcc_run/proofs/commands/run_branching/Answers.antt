use Rattle.lpcc_run.specs.Commands.{by_one_worker}
use Rattle.lpcc_run.proofs.Statuses.{of_tree}
use Rattle.lpcc_run.proofs.commands.run_branching.Goals as goal

pub returns : goal.returns
returns g c =
    let e = c.run_tree.ensures in
    of_tree by_one_worker c.args.settings c.limits_of.result _ _ _ _ _ _ _ _ c.limits_of.ensures e.answered e.verdict e.enough e.narrow
