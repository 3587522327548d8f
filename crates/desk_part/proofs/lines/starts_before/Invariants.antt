use Rattle.std.proofs.Common.{◌+◌}
use Rattle.desk_part.specs.Lines.{AreCounted}
use Rattle.desk_part.proofs.lines.starts_before.Given as goal

abbrev pub invariant-loop-at : goal.invariant-loop-at
invariant-loop-at l = AreCounted l.steps (l.at + 1) l.made.items
