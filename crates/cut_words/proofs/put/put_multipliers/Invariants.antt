use Rattle.std.proofs.Common.{◌≡◌, ◌<◌, ◌≤◌, ◌+◌, ℕ, length, get_or, drop}
use Rattle.cut_words.specs.Words.{multiplier_word}
use Rattle.cut_words.specs.Parts.{SameOutside}
use Rattle.cut_words.proofs.put.put_multipliers.Given as goal

abbrev pub decreases-loop-i : goal.decreases-loop-i
decreases-loop-i l = l.i

abbrev pub invariant-loop-i : goal.invariant-loop-i
invariant-loop-i l = record {
  size : length l.words ≡ length l.fn.words;
  few : l.i ≤ length l.mult;
  others : SameOutside l.fn.words l.words l.from l.count;
  put : (k : ℕ) → k < l.count → get_or l.words (l.from + k) 0 ≡ multiplier_word (drop l.i l.mult) k;
}
