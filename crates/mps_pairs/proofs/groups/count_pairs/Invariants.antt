use Rattle.std.proofs.Common.{◌≡◌, ◌+◌, ◌≤◌}
use Rattle.decks.specs.Decks.{new_pairs}
use Rattle.mps_pairs.proofs.groups.count_pairs.Given as goal

abbrev pub invariant-loop-left : goal.invariant-loop-left
invariant-loop-left l = record {
  so_far : l.total + new_pairs l.standing l.left ≡ l.made + new_pairs l.n l.more;
  few : l.total ≤ 1024;
}

abbrev pub decreases-loop-left : goal.decreases-loop-left
decreases-loop-left l = l.left
