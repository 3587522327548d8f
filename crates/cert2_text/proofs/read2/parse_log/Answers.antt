use Rattle.std.proofs.Common.{◌+◌, length, ap, arith}
use Rattle.std.proofs.lemmas.List.{length_push}
use Rattle.std.proofs.lemmas.Result.{err_from_is_err_and}
use Rattle.cert2_text.proofs.Logs2.{log_refused, log_ends, log_goes_on, entry_shorter}
use Rattle.cert2_text.proofs.read2.parse_log.Goals as goal

pub returns-in_err-entry : goal.returns-in_err-entry
returns-in_err-entry c =
    let p = err_from_is_err_and c.from_residual.result c.from_residual.ensures.1 in
    rw (p.1, p.2) (log_refused c.in_err-entry.field-0.0 c.loop-log.log c.loop-log.count c.loop-log.lines _ c.in_err-entry.ensures c.loop-log.invariant.0)

pub loop-log-smaller : goal.loop-log-smaller
loop-log-smaller c = entry_shorter c.loop-log.count c.loop-log.lines c.parse_entry_line.new.lines c.in_ok-entry.field-0 c.in_ok-entry.ensures

pub returns : goal.returns
returns c = log_ends c.loop-log.log c.loop-log.count c.loop-log.lines c.parse_entry_line.new.lines c.in_ok-entry.field-0 _ c.in_ok-entry.ensures c.in_default.is c.loop-log.invariant.0

pub loop-log-preserved : goal.loop-log-preserved
loop-log-preserved c = (
  log_goes_on c.loop-log.log c.loop-log.count (c.loop-log.count + c.counted-count.result) c.loop-log.lines c.parse_entry_line.new.lines c.in_ok-entry.field-0 c.in-Some.entry c.push.new.self _
      (ap (λ n. c.loop-log.count + n) c.counted-count.ensures.value) c.in_ok-entry.ensures c.in-Some.is c.in_ok-push.ensures.ok c.loop-log.invariant.0,
  omega (arith, ap length c.in_ok-push.ensures.ok, length_push c.loop-log.log c.in-Some.entry, c.counted-count.ensures.small, c.loop-log.invariant.1),
)
