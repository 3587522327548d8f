use Rattle.std.proofs.Common.{ap}
use Rattle.engine.specs.Solved.{alone}
use Rattle.lpcc_run.specs.Commands.{by_one_worker}
use Rattle.lpcc_run.proofs.Statuses.{of_usual}
use Rattle.lpcc_run.proofs.commands.run_draft.Goals as goal

pub returns-then-draft : goal.returns-then-draft
returns-then-draft g c = λ left rb rn. of_usual by_one_worker c.args.draft (alone c.usual.result) left rb rn _ _ _ _ _ c.if-draft.true (ap alone c.usual.ensures) c.generate_and_solve.ensures
