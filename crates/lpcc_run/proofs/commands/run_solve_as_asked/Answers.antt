use Rattle.std.proofs.Common.{ℕ, ◌∙◌, sym, ap}
use Rattle.engine.specs.Solved.{alone}
use Rattle.lpcc_run.specs.Commands.{as_asked}
use Rattle.lpcc_run.proofs.Statuses.{of_solve}
use Rattle.lpcc_run.proofs.commands.run_solve_as_asked.Goals as goal

pub returns-in-Some : goal.returns-in-Some
returns-in-Some g c =
    let e = c.run_solve_with.ensures in
    of_solve as_asked c.args.settings c.in-Some.options c.style_of.result _ _ _ _ _ _ _ _ c.in-Some.ensures c.style_of.ensures e.answered e.verdict e.enough

-- one worker, as the words ask
pub returns-in-None : goal.returns-in-None
returns-in-None g c =
    let e = c.run_solve.ensures in
    let one = ap (λ (n : ℕ). record (as_asked c.args.settings) { workers = n }) (sym c.in-None.ensures) in
    of_solve as_asked c.args.settings (alone c.options_of.result) c.style_of-in-None.result _ _ _ _ _ _ _ _ (ap alone c.options_of.ensures ∙ one) c.style_of-in-None.ensures e.answered e.verdict e.enough
