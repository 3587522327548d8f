use Rattle.words.specs.declared.command.Command.TheVariants.{Bilevel, Check, Edit, Generate, Lcp, Migrate, Relax, Solve, Tree}
use Rattle.lpcc_run.specs.Commands.{by_one_worker}
use Rattle.lpcc_run.proofs.Statuses.{at_command}
use Rattle.lpcc_run.proofs.dispatch.run_command.Goals as goal

pub returns-in-Check-clause-answered : goal.returns-in-Check-clause-answered
returns-in-Check-clause-answered g c = at_command by_one_worker c.args.command Check _ _ _ _ _ _ _ _ c.in-Check.is (c.verify.ensures.answered, c.verify.ensures.yes)

pub returns-in-Migrate-clause-answered : goal.returns-in-Migrate-clause-answered
returns-in-Migrate-clause-answered g c = at_command by_one_worker c.args.command Migrate _ _ _ _ _ _ _ _ c.in-Migrate.is (c.convert.ensures.answered, c.convert.ensures.converted)

pub returns-in-Relax-clause-answered : goal.returns-in-Relax-clause-answered
returns-in-Relax-clause-answered g c = at_command by_one_worker c.args.command (Relax c.in-Relax.pivots) _ _ _ _ _ _ _ _ c.in-Relax.is (c.relax.ensures.answered, c.relax.ensures.verdict, c.relax.ensures.enough)

pub returns-in-Solve-clause-answered : goal.returns-in-Solve-clause-answered
returns-in-Solve-clause-answered g c = at_command by_one_worker c.args.command (Solve c.in-Solve.settings) _ _ _ _ _ _ _ _ c.in-Solve.is c.run_solve_alone.ensures

pub returns-in-Tree-clause-answered : goal.returns-in-Tree-clause-answered
returns-in-Tree-clause-answered g c = at_command by_one_worker c.args.command (Tree c.in-Tree.settings) _ _ _ _ _ _ _ _ c.in-Tree.is c.run_branching.ensures

pub returns-in-Edit-clause-answered : goal.returns-in-Edit-clause-answered
returns-in-Edit-clause-answered g c = at_command by_one_worker c.args.command (Edit c.in-Edit.settings) _ _ _ _ _ _ _ _ c.in-Edit.is c.run_session.ensures

pub returns-in-Generate-clause-answered : goal.returns-in-Generate-clause-answered
returns-in-Generate-clause-answered g c =
    at_command by_one_worker c.args.command (Generate c.in-Generate.draft) _ _ _ _ _ _ _ _ c.in-Generate.is (c.run_draft.ensures (g.S.Source.left c.args.src.now) (g.S.Source.faults c.args.src.now) (g.S.Source.faults c.args.src.now))

pub returns-in-Lcp-clause-answered : goal.returns-in-Lcp-clause-answered
returns-in-Lcp-clause-answered g c = at_command by_one_worker c.args.command (Lcp c.in-Lcp.solve) _ _ _ _ _ _ _ _ c.in-Lcp.is c.run_lcp.ensures

pub returns-in-Bilevel-clause-answered : goal.returns-in-Bilevel-clause-answered
returns-in-Bilevel-clause-answered g c = at_command by_one_worker c.args.command (Bilevel c.in-Bilevel.solve) _ _ _ _ _ _ _ _ c.in-Bilevel.is c.run_bilevel.ensures
