use Rattle.std.proofs.Common.{◌≡◌, map, take}
use Rattle.decks.specs.Bounds.{below_zero_line}
use Rattle.mps_tables.proofs.bounds.BoundTable.below_zero.Given as goal

abbrev pub invariant-loop-index : goal.invariant-loop-index
invariant-loop-index l = l.least ≡ below_zero_line (map (λ e. e.1) (take l.index l.self-inside.columns))
