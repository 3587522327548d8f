use Rattle.std.proofs.Common.{◌≡◌, length}
use Rattle.cert_text.proofs.Going.{onto}
use Rattle.edit_text.specs.Reading.{terms_at}
use Rattle.edit_text.proofs.words.parse_terms.Given as goal

abbrev pub invariant-loop-word : goal.invariant-loop-word
invariant-loop-word l = onto l.terms (terms_at l.words) ≡ terms_at l.fn.words

abbrev pub decreases-loop-word : goal.decreases-loop-word
decreases-loop-word l = length l.words
