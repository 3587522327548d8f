use Rattle.std.proofs.Common.{◌≡◌, ◌≤◌, ◌++◌, length, take, drop}
use Rattle.cut_words.specs.Reading.{elements, choice_of}
use Rattle.cut_words.proofs.read.list_choices.Given as goal

abbrev pub invariant-loop-k : goal.invariant-loop-k
invariant-loop-k l = record {
  few : l.count ≤ l.k;
  size : length l.into ≡ length l.fn.into;
  so_far : take l.count l.into ++ elements choice_of l.k (drop l.k l.words) ≡ elements choice_of 0 l.words;
}
