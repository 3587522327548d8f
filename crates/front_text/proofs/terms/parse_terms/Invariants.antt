use Rattle.std.proofs.Common.{◌≡◌, length}
use Rattle.cert_text.proofs.Going.{onto}
use Rattle.front_text.specs.Reading.{terms_from}
use Rattle.front_text.proofs.terms.parse_terms.Given as goal

abbrev pub invariant-loop-next : goal.invariant-loop-next
invariant-loop-next l = onto l.terms (terms_from l.next l.words) ≡ terms_from l.fn.least l.fn.words

abbrev pub decreases-loop-next : goal.decreases-loop-next
decreases-loop-next l = length l.words
