use Rattle.std.proofs.Common.{length}
use Rattle.play.proofs.same.+same_sides.Given as goal

abbrev pub decreases-same_sides : goal.decreases-same_sides
decreases-same_sides l = length l.left.now
