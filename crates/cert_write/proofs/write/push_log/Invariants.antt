use Rattle.std.proofs.Common.{◌≡◌, ◌++◌, drop}
use Rattle.cert_write.proofs.Pushes.{log_text}
use Rattle.cert_write.proofs.write.push_log.Given as goal

abbrev pub invariant-loop-line : goal.invariant-loop-line
invariant-loop-line l = l.out.items ++ log_text (drop l.line-index l.lines) ≡ l.fn.out.items ++ log_text l.lines
