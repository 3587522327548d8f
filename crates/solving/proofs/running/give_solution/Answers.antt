use Rattle.solving.proofs.Runs.{shown_form}
use Rattle.solving.proofs.running.give_solution.Goals as goal

pub give_ending-requires-clause-form : goal.give_ending-requires-clause-form
give_ending-requires-clause-form g c = shown_form c.args.case.now c.args.options.now c.args.ending.now c.requires.shown
