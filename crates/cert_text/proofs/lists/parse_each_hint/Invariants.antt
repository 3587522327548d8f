use Rattle.std.proofs.Common.{◌≡◌, length}
use Rattle.cert_text.specs.Reading.{hints_at}
use Rattle.cert_text.proofs.Going.{onto}
use Rattle.cert_text.proofs.lists.parse_each_hint.Given as goal

abbrev pub invariant-loop-word : goal.invariant-loop-word
invariant-loop-word l = onto l.hints (hints_at l.words) ≡ hints_at l.fn.words

abbrev pub decreases-loop-word : goal.decreases-loop-word
decreases-loop-word l = length l.words
