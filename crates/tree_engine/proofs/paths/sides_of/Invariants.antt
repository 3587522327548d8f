use Rattle.std.proofs.Common.{◌≡◌, map, take}
use Rattle.tree_engine.specs.Paths.{side_of}
use Rattle.tree_engine.proofs.paths.sides_of.Given as goal

abbrev pub invariant-loop-at : goal.invariant-loop-at
invariant-loop-at l = l.sides ≡ map side_of (take l.at l.choices)
