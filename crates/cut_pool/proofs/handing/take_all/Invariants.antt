use Rattle.std.proofs.Common.{◌≡◌, ◌≢◌, ◌<◌, ℕ, List, [], get_or, length, map}
use Rattle.lpcc_case.specs.Instance.{Instance}
use Rattle.cut_pool.specs.Opened.{RowWaits}
use Rattle.cut_pool.specs.Reaches.{TookAll}
use Rattle.cut_pool.proofs.handing.take_all.Given as goal

abbrev pub invariant-loop-lane : goal.invariant-loop-lane
invariant-loop-lane l = record {
  size : length l.lanes.items ≡ length l.fn.lanes.items;
  waits : RowWaits l.fn.reach.case l.lanes.items l.row l.worker;
  took : TookAll l.fn.reach l.reach l.fn.row l.row;
  all : (j : ℕ) → j < l.lane → get_or l.row j 0 ≡ length (get_or l.lanes.items j []);
  others : (a : Instance) (w : ℕ) (r : List ℕ) → w ≢ l.worker → RowWaits a l.fn.lanes.items r w → RowWaits a l.lanes.items r w;
  counts : map length l.lanes.items ≡ map length l.fn.lanes.items;
}
