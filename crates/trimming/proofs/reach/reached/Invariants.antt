use Rattle.std.proofs.Common.{◌≡◌, ◌≤◌, ◌+◌, length, get_or, false, true}
use Rattle.trimming.specs.Marks.{AreSound, IsClosedFrom}
use Rattle.trimming.proofs.reach.reached.Given as goal

abbrev pub invariant-loop-at : goal.invariant-loop-at
invariant-loop-at l =
    (length l.marks.items ≡ l.last + 1) × (l.at ≤ l.last + 1) × (get_or l.marks.items l.last false ≡ true) × IsClosedFrom l.at l.log l.marks.items
    × AreSound l.log l.last l.marks.items

abbrev pub decreases-loop-at : goal.decreases-loop-at
decreases-loop-at l = l.at
