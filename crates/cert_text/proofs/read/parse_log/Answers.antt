use Rattle.std.proofs.lemmas.Result.{err_from_is_err_and}
use Rattle.cert_text.proofs.Logs.{log_refused, log_ends, log_goes_on, entry_shorter}
use Rattle.cert_text.proofs.read.parse_log.Goals as goal

pub returns-in_err-entry : goal.returns-in_err-entry
returns-in_err-entry c =
    let p = err_from_is_err_and c.from_residual.result c.from_residual.ensures.1 in
    rw (p.1, p.2) (log_refused c.in_err-entry.field-0.0 c.loop-log.log c.len.result c.loop-log.lines _ c.len.ensures c.in_err-entry.ensures c.loop-log.invariant)

pub loop-log-smaller : goal.loop-log-smaller
loop-log-smaller c = entry_shorter c.len.result c.loop-log.lines c.parse_entry_line.new.lines c.in_ok-entry.field-0 c.in_ok-entry.ensures

pub loop-log-preserved : goal.loop-log-preserved
loop-log-preserved c = log_goes_on c.loop-log.log c.len.result c.loop-log.lines c.parse_entry_line.new.lines c.in_ok-entry.field-0 c.in-Some.entry c.push.new.self _ c.len.ensures c.in_ok-entry.ensures c.in-Some.is c.in_ok-push.ensures.ok c.loop-log.invariant

pub returns : goal.returns
returns c = log_ends c.loop-log.log c.len.result c.loop-log.lines c.parse_entry_line.new.lines c.in_ok-entry.field-0 _ c.len.ensures c.in_ok-entry.ensures c.in_default.is c.loop-log.invariant
