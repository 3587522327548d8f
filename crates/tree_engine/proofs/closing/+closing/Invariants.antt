use Rattle.std.proofs.Common.{◌+◌, ◌-◌, ◌*◌, length}
use Rattle.tree_engine.proofs.closing.+closing.Given as goal

abbrev pub decreases-closed : goal.decreases-closed
decreases-closed l = 3 * (length l.case.now.pairs - length l.path.now) + 2

abbrev pub decreases-closed_second : goal.decreases-closed_second
decreases-closed_second l = 3 * (length l.case.now.pairs - length l.path.now)

abbrev pub decreases-closed_sides : goal.decreases-closed_sides
decreases-closed_sides l = 3 * (length l.case.now.pairs - length l.path.now) + 1
