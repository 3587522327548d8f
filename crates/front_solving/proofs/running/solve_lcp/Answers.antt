use Rattle.std.specs.Prelude.{Ok}
use Rattle.engine.specs.Solved.{alone}
use Rattle.front_text.specs.Texts.{FailsAsLcp, SpellsLcp}
use Rattle.fronting.proofs.FrontRuns.{refused, run_of}
use Rattle.front_solving.specs.Solving.{SaysOfLcp}
use Rattle.front_solving.proofs.Answered.{lcp_status}
use Rattle.front_solving.proofs.Meaning.{LcpLaws}
use Rattle.front_solving.proofs.running.solve_lcp.Goals as goal

pub returns-in-Ok-clause-answered : goal.returns-in-Ok-clause-answered
returns-in-Ok-clause-answered g c = run_of SpellsLcp FailsAsLcp (SaysOfLcp (alone c.args.options.now)) _ _ _ _ _ _ _ _ (Ok c.in-Ok.lcp) c.in-Ok.ensures.right c.give_lcp_solution.ensures

pub returns-in-Ok-clause-solved : goal.returns-in-Ok-clause-solved
returns-in-Ok-clause-solved g c = λ zero bytes told.
    let laws : LcpLaws = record { objective = c.cost_is_the_objective.ensures; kept = c.problems_have_decks.ensures.lcp; solutions = c.a_deck_is_met_by_the_solutions.ensures.case } in
    let run = run_of SpellsLcp FailsAsLcp (SaysOfLcp (alone c.args.options.now)) _ _ _ _ _ _ _ _ (Ok c.in-Ok.lcp) c.in-Ok.ensures.right c.give_lcp_solution.ensures in
    lcp_status laws (alone c.args.options.now) _ _ _ _ _ _ _ _ bytes run told zero

pub returns-in-Err-clause-answered : goal.returns-in-Err-clause-answered
returns-in-Err-clause-answered g c = refused SpellsLcp FailsAsLcp (SaysOfLcp (alone c.args.options.now)) _ _ _ _ _ _ _ _ c.in-Err.refusal c.in-Err.ensures.right c.give_front_refusal.ensures

pub returns-in-Err-clause-solved : goal.returns-in-Err-clause-solved
returns-in-Err-clause-solved g c = λ zero bytes told.
    let laws : LcpLaws = record { objective = c.cost_is_the_objective.ensures; kept = c.problems_have_decks.ensures.lcp; solutions = c.a_deck_is_met_by_the_solutions.ensures.case } in
    let run = refused SpellsLcp FailsAsLcp (SaysOfLcp (alone c.args.options.now)) _ _ _ _ _ _ _ _ c.in-Err.refusal c.in-Err.ensures.right c.give_front_refusal.ensures in
    lcp_status laws (alone c.args.options.now) _ _ _ _ _ _ _ _ bytes run told zero
