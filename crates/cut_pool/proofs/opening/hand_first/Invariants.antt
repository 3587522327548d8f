use Rattle.std.proofs.Common.{◌≡◌, ◌<◌, ◌≤◌, ℕ, [], length, get_or, map}
use Rattle.std.specs.Prelude.{replicate}
use Rattle.std.specs.Arc.{arc_value}
use Rattle.cut_pool.specs.Opened.{RowWaits}
use Rattle.cut_pool.specs.Reaches.{ReachView, TookAll, bare_reach}
use Rattle.cut_pool.proofs.opening.hand_first.Given as goal

abbrev pub invariant-loop-worker : goal.invariant-loop-worker
invariant-loop-worker l = record {
  pages : map length l.lanes.items ≡ map length l.fn.lanes.items;
  reaches_count : length l.reaches.items ≡ length l.fn.lanes.items;
  handed_count : length l.handed.items ≡ l.worker;
  waits : (w : ℕ) → w < l.worker → RowWaits (arc_value l.case) l.lanes.items (get_or l.handed.items w []) w;
  all : (w : ℕ) → w < l.worker → get_or l.handed.items w [] ≡ map length l.fn.lanes.items;
  took : (w : ℕ) (d : ReachView) → w < l.worker → TookAll (bare_reach (arc_value l.case) (length l.fn.lanes.items) w) (get_or l.reaches.items w d) (replicate (length l.fn.lanes.items) 0) (map length l.fn.lanes.items);
  left : (w : ℕ) → l.worker ≤ w → w < length l.fn.lanes.items → RowWaits (arc_value l.case) l.lanes.items (replicate (length l.fn.lanes.items) 0) w;
  same : (w : ℕ) (d : ReachView) → l.worker ≤ w → w < length l.fn.lanes.items → get_or l.reaches.items w d ≡ bare_reach (arc_value l.case) (length l.fn.lanes.items) w;
}
