use Rattle.std.proofs.Common.{◌≡◌, length}
use Rattle.cert_text.specs.Steps.{log_step}
use Rattle.cert_text.proofs.Going.{onto_first}
use Rattle.cert_text.proofs.read.parse_log.Given as goal

abbrev pub invariant-loop-log : goal.invariant-loop-log
invariant-loop-log l = onto_first l.log (log_step (length l.log) l.lines) ≡ log_step 0 l.fn.lines

abbrev pub decreases-loop-log : goal.decreases-loop-log
decreases-loop-log l = length l.lines.lines
