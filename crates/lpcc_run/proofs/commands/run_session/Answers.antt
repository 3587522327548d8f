use Rattle.lpcc_run.specs.Commands.{by_one_worker}
use Rattle.lpcc_run.proofs.Statuses.{of_edits}
use Rattle.lpcc_run.proofs.commands.run_session.Goals as goal

pub returns : goal.returns
returns g c =
    let e = c.run_edits.ensures in
    of_edits by_one_worker c.args.settings c.session_options.result _ _ _ _ _ _ _ _ c.session_options.ensures e.answered e.verdicts e.enough
