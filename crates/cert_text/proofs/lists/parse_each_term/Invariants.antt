use Rattle.std.proofs.Common.{◌≡◌, length}
use Rattle.cert_text.specs.Reading.{terms_from}
use Rattle.cert_text.proofs.Going.{onto}
use Rattle.cert_text.proofs.lists.parse_each_term.Given as goal

abbrev pub invariant-loop-word : goal.invariant-loop-word
invariant-loop-word l = onto l.terms (terms_from l.least l.words) ≡ terms_from 0 l.fn.words

abbrev pub decreases-loop-word : goal.decreases-loop-word
decreases-loop-word l = length l.words
