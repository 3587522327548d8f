use Rattle.std.proofs.Common.{take}
use Rattle.std.specs.Prelude.{flat_map}
use Rattle.migrating.specs.Migration.{mult_in}
use Rattle.migrating.specs.Making.{AreCounted}
use Rattle.migrating.proofs.sharing.shared_lists.Given as goal

abbrev pub invariant-loop-line : goal.invariant-loop-line
invariant-loop-line l = AreCounted (flat_map mult_in (take l.line-index l.lines)) l.once l.again
