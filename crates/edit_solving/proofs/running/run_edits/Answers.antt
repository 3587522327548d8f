use Rattle.edit_solving.proofs.Runs.{never_spent, read_refused, said_run, says_verdicts, script_refused}
use Rattle.edit_solving.proofs.running.run_edits.Goals as goal

pub returns-in-Ok-say_over-clause-verdicts : goal.returns-in-Ok-say_over-clause-verdicts
returns-in-Ok-say_over-clause-verdicts g c = λ zero bytes told.
    says_verdicts c.args.options.now _ _ _ _ _ _ _ _ bytes (said_run c.args.options.now _ _ _ _ _ _ _ _ c.in-Ok.case c.in-Ok.script c.in-Ok-say_over.text.items c.as_slice.result.now c.in-Ok-say_over.status c.in-Ok.ensures.right c.in-Ok-say_over.ensures.said c.as_slice.ensures.value c.give.ensures) zero told

pub returns-in-Ok-say_over-clause-enough : goal.returns-in-Ok-say_over-clause-enough
returns-in-Ok-say_over-clause-enough g c = λ bytes told a script spelled enough eight.
    never_spent c.args.options.now _ _ _ _ _ _ _ _ bytes a script (said_run c.args.options.now _ _ _ _ _ _ _ _ c.in-Ok.case c.in-Ok.script c.in-Ok-say_over.text.items c.as_slice.result.now c.in-Ok-say_over.status c.in-Ok.ensures.right c.in-Ok-say_over.ensures.said c.as_slice.ensures.value c.give.ensures) told spelled enough eight

pub returns-in-Ok-clause-answered : goal.returns-in-Ok-clause-answered
returns-in-Ok-clause-answered g c = script_refused c.args.options.now _ _ _ _ _ _ _ _ c.in-Ok.case c.in-Ok.script c.in-Err-say_over.refusal c.in-Ok.ensures.right c.in-Err-say_over.ensures.refused c.give_edit_refusal.ensures

pub returns-clause-answered : goal.returns-clause-answered
returns-clause-answered g c = read_refused c.args.options.now _ _ _ _ _ _ _ _ c.in-Err.refusal c.in-Err.ensures.right c.give_edit_refusal-in-Err.ensures
