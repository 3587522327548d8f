use Rattle.words.specs.declared.command.Command.TheVariants.{Solve}
use Rattle.lpcc_run.specs.Commands.{as_asked}
use Rattle.lpcc_run.proofs.Statuses.{at_command, of_alone}
use Rattle.lpcc_run.proofs.dispatch.run_command_as_asked.Goals as goal

pub returns-in-Some-clause-answered : goal.returns-in-Some-clause-answered
returns-in-Some-clause-answered g c = at_command as_asked c.args.command (Solve c.in-Some.settings) _ _ _ _ _ _ _ _ c.in-Some.ensures.0 c.run_solve_as_asked.ensures

pub returns-in-None-clause-answered : goal.returns-in-None-clause-answered
returns-in-None-clause-answered g c = of_alone c.args.command _ _ _ _ _ _ _ _ c.in-None.ensures c.run_command.ensures.answered
