use Rattle.std.proofs.Common.{◌≡◌, ◌<◌, ◌≤◌, ◌+◌, ℕ, length, get_or, drop}
use Rattle.cut_words.specs.Words.{choice_word}
use Rattle.cut_words.specs.Parts.{SameOutside}
use Rattle.cut_words.proofs.put.put_choices.Given as goal

abbrev pub decreases-loop-i : goal.decreases-loop-i
decreases-loop-i l = l.i

abbrev pub invariant-loop-i : goal.invariant-loop-i
invariant-loop-i l = record {
  size : length l.words ≡ length l.fn.words;
  few : l.i ≤ length l.choices;
  others : SameOutside l.fn.words l.words l.from l.pairs;
  put : (k : ℕ) → k < l.pairs → get_or l.words (l.from + k) 0 ≡ choice_word (drop l.i l.choices) k;
}
