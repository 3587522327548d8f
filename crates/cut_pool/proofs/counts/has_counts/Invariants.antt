use Rattle.std.proofs.Common.{◌≡◌, ◌<◌, ℕ, get_or}
use Rattle.cut_pool.specs.Reaches.{lane_at}
use Rattle.cut_pool.specs.Shelves.{page_count}
use Rattle.cut_pool.proofs.counts.has_counts.Given as goal

abbrev pub invariant-loop-lane : goal.invariant-loop-lane
invariant-loop-lane l = (j : ℕ) → j < l.lane → page_count (lane_at l.reach j) ≡ get_or l.handed j 0
