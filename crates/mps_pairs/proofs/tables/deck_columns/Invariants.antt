use Rattle.std.proofs.Common.{◌≡◌, map, take}
use Rattle.mps_tables.specs.Known.{bounds_with}
use Rattle.mps_pairs.proofs.tables.deck_columns.Given as goal

abbrev pub invariant-loop-index : goal.invariant-loop-index
invariant-loop-index l = l.found ≡ map (bounds_with l.bounds.columns) (take l.index l.names)
