use Rattle.std.proofs.Common.{sym, subst}
use Rattle.engine.specs.Solved.{VerdictsAreShown}
use Rattle.play.specs.declared.event.Options.{Options}
use Rattle.solving.proofs.running.solve_case.Goals as goal

pub give_solution-requires-clause-shown : goal.give_solution-requires-clause-shown
give_solution-requires-clause-shown g c = subst (λ (o : Options). VerdictsAreShown c.args.case.now o c.solve_alone-ending.result) (sym c.alone.ensures) c.solve_alone-ending.ensures.verdict
