use Rattle.std.proofs.Common.{rules}
use Rattle.cert_text.proofs.Going.{hint_refused, hints_go_on, hints_stop}
use Rattle.cert_text.proofs.lists.parse_each_hint.Goals as goal

pub returns-in_err-parse_hint : goal.returns-in_err-parse_hint
returns-in_err-parse_hint c = search (rules, hint_refused c.loop-word.hints c.loop-word.words c.in-Some.word.now c.next.new.self _ _ c.in-Some.ensures c.in_err-parse_hint.ensures c.loop-word.invariant)

pub loop-word-preserved : goal.loop-word-preserved
loop-word-preserved c = hints_go_on c.loop-word.hints c.loop-word.words c.in-Some.word.now c.next.new.self c.in_ok-parse_hint.field-0 c.push.new.self _ c.in-Some.ensures c.in_ok-parse_hint.ensures c.in_ok-push.ensures.ok c.loop-word.invariant

pub returns : goal.returns
returns c = hints_stop c.loop-word.hints c.loop-word.words _ c.in_default.ensures.0 c.loop-word.invariant
