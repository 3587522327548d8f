use Rattle.std.proofs.Common.{rules}
use Rattle.cert2_text.proofs.ListWords.{dropped_refused, dropped_go_on, dropped_stop}
use Rattle.cert2_text.proofs.lists2.parse_each_dropped.Goals as goal

pub returns-in_err-line : goal.returns-in_err-line
returns-in_err-line c = search (rules, dropped_refused c.loop-word.lines c.loop-word.least c.loop-word.words c.in-Some.word.now c.next.new.self _ _ c.in-Some.ensures c.in_err-line.ensures.number c.loop-word.invariant)

pub loop-word-preserved : goal.loop-word-preserved
loop-word-preserved c = dropped_go_on c.loop-word.lines c.loop-word.least c.loop-word.words c.in-Some.word.now c.next.new.self c.in_ok-line.line c.push.new.self _ c.in-Some.ensures c.in_ok-line.ensures.number c.in_ok-push.ensures.ok c.loop-word.invariant

pub returns : goal.returns
returns c = dropped_stop c.loop-word.lines c.loop-word.least c.loop-word.words _ c.in_default.ensures.0 c.loop-word.invariant
