use Rattle.std.proofs.Common.{length, drop, ◌+◌, ◌-◌, ◌≤◌, ◌<◌}
use Rattle.dict.proofs.Merges.{Merging}
use Rattle.dict.proofs.merge.combine.Given as goal

abbrev pub invariant-both : goal.invariant-both
invariant-both l = Merging l.places l.p l.a l.e l.xs l.ys (drop l.i l.xs) (drop l.j l.ys) l.out.items

abbrev pub decreases-both : goal.decreases-both
decreases-both l = (length l.xs - l.i) + (length l.ys - l.j)

abbrev pub invariant-left : goal.invariant-left
invariant-left l = record {
  merged : Merging l.places l.p l.a l.e l.xs l.ys (drop l.i l.xs) (drop l.j l.ys) l.out.items;
  past : l.i < length l.xs → length l.ys ≤ l.j;
}

abbrev pub decreases-left : goal.decreases-left
decreases-left l = length l.xs - l.i

abbrev pub invariant-right : goal.invariant-right
invariant-right l = record {
  merged : Merging l.places l.p l.a l.e l.xs l.ys (drop l.i l.xs) (drop l.j l.ys) l.out.items;
  past : length l.xs ≤ l.i;
}

abbrev pub decreases-right : goal.decreases-right
decreases-right l = length l.ys - l.j
