use Rattle.std.proofs.Common.{◌+◌}
use Rattle.cert_parts.specs.Making.{AreCounted}
use Rattle.cert_parts.proofs.lines.starts_before.Given as goal

abbrev pub invariant-loop-at : goal.invariant-loop-at
invariant-loop-at l = AreCounted l.steps (l.at + 1) l.made.items
