use Rattle.std.proofs.Common.{ℕ, ◌-◌, ◌<◌, ◌≤◌, ◌≡◌, true, false, [], length, get_or}
use Rattle.nogoods.specs.Pieces.{precedes}
use Rattle.piece_sets.proofs.piece_set.place_of.Given as goal

abbrev pub invariant-loop-low : goal.invariant-loop-low
invariant-loop-low l = record {
  order : l.low ≤ l.high;
  top : l.high ≤ length l.pieces;
  before : (k : ℕ) → k < l.low → precedes (get_or l.pieces k []) l.sides ≡ true;
  rest : (k : ℕ) → l.high ≤ k → k < length l.pieces → precedes (get_or l.pieces k []) l.sides ≡ false;
}

abbrev pub decreases-loop-low : goal.decreases-loop-low
decreases-loop-low l = l.high - l.low
