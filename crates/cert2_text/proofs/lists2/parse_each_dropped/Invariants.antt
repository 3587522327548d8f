use Rattle.std.proofs.Common.{◌≡◌, length}
use Rattle.cert_text.proofs.Going.{onto}
use Rattle.cert2_text.specs.Reading2.{dropped_from}
use Rattle.cert2_text.proofs.lists2.parse_each_dropped.Given as goal

abbrev pub invariant-loop-word : goal.invariant-loop-word
invariant-loop-word l = onto l.lines (dropped_from l.least l.words) ≡ dropped_from 0 l.fn.words

abbrev pub decreases-loop-word : goal.decreases-loop-word
decreases-loop-word l = length l.words
