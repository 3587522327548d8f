use Rattle.std.specs.Prelude.{Ok}
use Rattle.engine.specs.Solved.{alone}
use Rattle.front_text.specs.Texts.{FailsAsBilevel, SpellsBilevel}
use Rattle.fronting.proofs.FrontRuns.{refused, run_of}
use Rattle.front_solving.specs.Solving.{SaysOfBilevel}
use Rattle.front_solving.proofs.Answered.{bilevel_status}
use Rattle.front_solving.proofs.Meaning.{BilevelLaws}
use Rattle.front_solving.proofs.running.solve_bilevel.Goals as goal

pub returns-in-Ok-clause-answered : goal.returns-in-Ok-clause-answered
returns-in-Ok-clause-answered g c = run_of SpellsBilevel FailsAsBilevel (SaysOfBilevel (alone c.args.options.now)) _ _ _ _ _ _ _ _ (Ok c.in-Ok.bilevel) c.in-Ok.ensures.right c.give_bilevel_solution.ensures

pub returns-in-Ok-clause-solved : goal.returns-in-Ok-clause-solved
returns-in-Ok-clause-solved g c = λ zero bytes told.
    let laws : BilevelLaws = record { objective = c.cost_is_the_objective.ensures; kept = c.problems_have_decks.ensures.bilevel; multipliers = c.a_deck_is_met_with_multipliers.ensures.case; followers = c.y_with_multipliers_is_least.ensures } in
    let run = run_of SpellsBilevel FailsAsBilevel (SaysOfBilevel (alone c.args.options.now)) _ _ _ _ _ _ _ _ (Ok c.in-Ok.bilevel) c.in-Ok.ensures.right c.give_bilevel_solution.ensures in
    bilevel_status laws (alone c.args.options.now) _ _ _ _ _ _ _ _ bytes run told zero

pub returns-in-Err-clause-answered : goal.returns-in-Err-clause-answered
returns-in-Err-clause-answered g c = refused SpellsBilevel FailsAsBilevel (SaysOfBilevel (alone c.args.options.now)) _ _ _ _ _ _ _ _ c.in-Err.refusal c.in-Err.ensures.right c.give_front_refusal.ensures

pub returns-in-Err-clause-solved : goal.returns-in-Err-clause-solved
returns-in-Err-clause-solved g c = λ zero bytes told.
    let laws : BilevelLaws = record { objective = c.cost_is_the_objective.ensures; kept = c.problems_have_decks.ensures.bilevel; multipliers = c.a_deck_is_met_with_multipliers.ensures.case; followers = c.y_with_multipliers_is_least.ensures } in
    let run = refused SpellsBilevel FailsAsBilevel (SaysOfBilevel (alone c.args.options.now)) _ _ _ _ _ _ _ _ c.in-Err.refusal c.in-Err.ensures.right c.give_front_refusal.ensures in
    bilevel_status laws (alone c.args.options.now) _ _ _ _ _ _ _ _ bytes run told zero
