use Rattle.std.proofs.Common.{◌≡◌, ◌≤◌, length}
use Rattle.cert_text.proofs.Going.{onto_first}
use Rattle.cert2_text.specs.Steps2.{log2_step}
use Rattle.cert2_text.proofs.read2.parse_log.Given as goal

abbrev pub invariant-loop-log : goal.invariant-loop-log
invariant-loop-log l = (onto_first l.log (log2_step l.count l.lines) ≡ log2_step 0 l.fn.lines) × (l.count ≤ length l.log)

abbrev pub decreases-loop-log : goal.decreases-loop-log
decreases-loop-log l = length l.lines.lines
