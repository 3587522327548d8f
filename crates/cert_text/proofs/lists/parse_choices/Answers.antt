use Rattle.std.proofs.Common.{sym, rules}
use Rattle.cert_text.proofs.Going.{choices_close, choices_refused, choices_go_on, choices_stop}
use Rattle.cert_text.proofs.lists.parse_choices.Goals as goal

pub returns-then-is_colon : goal.returns-then-is_colon
returns-then-is_colon c = choices_close c.loop-word.choices c.loop-word.least c.loop-word.words c.in-Some.word.now c.next.new.self _ c.in-Some.ensures (sym c.if-is_colon.ensures) c.loop-word.invariant

pub returns-in_err-choice : goal.returns-in_err-choice
returns-in_err-choice c =
    search (rules, choices_refused c.loop-word.choices c.loop-word.least c.loop-word.words c.in-Some.word.now c.next.new.self _ _ c.in-Some.ensures (sym c.if-is_colon.ensures) c.in_err-choice.ensures.value c.loop-word.invariant)

pub loop-word-preserved : goal.loop-word-preserved
loop-word-preserved c =
    choices_go_on c.loop-word.choices c.loop-word.least c.loop-word.words c.in-Some.word.now c.next.new.self c.in_ok-choice.choice c.push.new.self _ c.in-Some.ensures (sym c.if-is_colon.ensures) c.in_ok-choice.ensures.value c.in_ok-push.ensures.ok c.loop-word.invariant

pub returns : goal.returns
returns c = choices_stop c.loop-word.choices c.loop-word.least c.loop-word.words _ c.in_default.ensures.0 c.loop-word.invariant
