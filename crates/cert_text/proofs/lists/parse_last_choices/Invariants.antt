use Rattle.std.proofs.Common.{◌≡◌, length}
use Rattle.cert_text.specs.Reading.{last_choices_from}
use Rattle.cert_text.proofs.Going.{onto}
use Rattle.cert_text.proofs.lists.parse_last_choices.Given as goal

abbrev pub invariant-loop-word : goal.invariant-loop-word
invariant-loop-word l = onto l.choices (last_choices_from l.least l.words) ≡ last_choices_from 0 l.fn.words

abbrev pub decreases-loop-word : goal.decreases-loop-word
decreases-loop-word l = length l.words
