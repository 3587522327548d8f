use Rattle.std.proofs.Common.{◌≡◌, ◌≤◌, length}
use Rattle.cert_text.specs.Lines.{content, is_cut}
use Rattle.cert_text.proofs.lines.next_in.Given as goal

abbrev pub invariant-loop-at : goal.invariant-loop-at
invariant-loop-at l = (content l.rest ≡ content l.text) × (is_cut l.rest ≡ is_cut l.text) × (length l.rest ≤ length l.text)

abbrev pub decreases-loop-at : goal.decreases-loop-at
decreases-loop-at l = length l.rest
