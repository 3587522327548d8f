use Rattle.std.proofs.Common.{◌≡◌, ◌<◌, ℕ, length, get_or}
use Rattle.std.specs.Prelude.{All}
use Rattle.std.specs.Arc.{arc_value}
use Rattle.cut_pool.specs.Opened.{IsFirstLane}
use Rattle.cut_pool.specs.Reaches.{ReachView, bare_reach}
use Rattle.cut_pool.proofs.opening.open_lanes.Given as goal

abbrev pub invariant-loop-worker : goal.invariant-loop-worker
invariant-loop-worker l = record {
  lanes_count : length l.lanes.items ≡ l.worker;
  reaches_count : length l.reaches.items ≡ l.worker;
  lanes : All (IsFirstLane (arc_value l.case) l.workers) l.lanes.items;
  reaches : (k : ℕ) (d : ReachView) → k < l.worker → get_or l.reaches.items k d ≡ bare_reach (arc_value l.case) l.workers k;
}
