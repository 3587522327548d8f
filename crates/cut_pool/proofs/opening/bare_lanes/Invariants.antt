use Rattle.std.proofs.Common.{◌≡◌}
use Rattle.std.specs.Prelude.{replicate}
use Rattle.cut_pool.specs.Reaches.{no_lane}
use Rattle.cut_pool.proofs.opening.bare_lanes.Given as goal

abbrev pub invariant-loop : goal.invariant-loop
invariant-loop l = l.lanes.items ≡ replicate l.counter no_lane
