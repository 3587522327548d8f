use Rattle.std.specs.Prelude.{Ok}
use Rattle.command.proofs.CaseRuns.{refused, run_of}
use Rattle.branching.specs.Branching.{Says}
use Rattle.branching.proofs.Runs.{Laws, never_spent, never_wide, says_verdict}
use Rattle.branching.proofs.running.run_tree.Goals as goal

pub returns-in-Ok-clause-answered : goal.returns-in-Ok-clause-answered
returns-in-Ok-clause-answered g c = run_of (Says c.args.options.now c.args.brief) _ _ _ _ _ _ _ _ (Ok c.in-Ok.case) c.in-Ok.ensures c.give_answer.ensures

pub returns-in-Ok-clause-verdict : goal.returns-in-Ok-clause-verdict
returns-in-Ok-clause-verdict g c = λ zero bytes told.
    let laws : Laws = record { decks_keep = c.spelled_decks_keep.ensures; same_truth = c.verdicts_are_those_of_the_deck.ensures } in
    let run = run_of (Says c.args.options.now c.args.brief) _ _ _ _ _ _ _ _ (Ok c.in-Ok.case) c.in-Ok.ensures c.give_answer.ensures in
    says_verdict laws c.args.options.now c.args.brief _ _ _ _ _ _ _ _ bytes run told zero

pub returns-in-Err-clause-answered : goal.returns-in-Err-clause-answered
returns-in-Err-clause-answered g c = refused (Says c.args.options.now c.args.brief) _ _ _ _ _ _ _ _ c.in-Err.refusal c.in-Err.ensures c.give_refusal.ensures

pub returns-in-Err-clause-verdict : goal.returns-in-Err-clause-verdict
returns-in-Err-clause-verdict g c = λ zero bytes told.
    let laws : Laws = record { decks_keep = c.spelled_decks_keep.ensures; same_truth = c.verdicts_are_those_of_the_deck.ensures } in
    let run = refused (Says c.args.options.now c.args.brief) _ _ _ _ _ _ _ _ c.in-Err.refusal c.in-Err.ensures c.give_refusal.ensures in
    says_verdict laws c.args.options.now c.args.brief _ _ _ _ _ _ _ _ bytes run told zero

pub returns-in-Ok-clause-enough : goal.returns-in-Ok-clause-enough
returns-in-Ok-clause-enough g c = λ bytes told a spelled enough eight.
    let run = run_of (Says c.args.options.now c.args.brief) _ _ _ _ _ _ _ _ (Ok c.in-Ok.case) c.in-Ok.ensures c.give_answer.ensures in
    never_spent c.a_deck_alone_is_read_once.ensures c.args.options.now c.args.brief _ _ _ _ _ _ _ _ bytes a run told spelled enough eight

pub returns-in-Ok-clause-narrow : goal.returns-in-Ok-clause-narrow
returns-in-Ok-clause-narrow g c = λ bytes told a spelled narrow seven.
    let run = run_of (Says c.args.options.now c.args.brief) _ _ _ _ _ _ _ _ (Ok c.in-Ok.case) c.in-Ok.ensures c.give_answer.ensures in
    never_wide c.a_deck_alone_is_read_once.ensures c.args.options.now c.args.brief _ _ _ _ _ _ _ _ bytes a run told spelled narrow seven

pub returns-in-Err-clause-enough : goal.returns-in-Err-clause-enough
returns-in-Err-clause-enough g c = λ bytes told a spelled enough eight.
    let run = refused (Says c.args.options.now c.args.brief) _ _ _ _ _ _ _ _ c.in-Err.refusal c.in-Err.ensures c.give_refusal.ensures in
    never_spent c.a_deck_alone_is_read_once.ensures c.args.options.now c.args.brief _ _ _ _ _ _ _ _ bytes a run told spelled enough eight

pub returns-in-Err-clause-narrow : goal.returns-in-Err-clause-narrow
returns-in-Err-clause-narrow g c = λ bytes told a spelled narrow seven.
    let run = refused (Says c.args.options.now c.args.brief) _ _ _ _ _ _ _ _ c.in-Err.refusal c.in-Err.ensures c.give_refusal.ensures in
    never_wide c.a_deck_alone_is_read_once.ensures c.args.options.now c.args.brief _ _ _ _ _ _ _ _ bytes a run told spelled narrow seven
