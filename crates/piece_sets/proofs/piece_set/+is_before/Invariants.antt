use Rattle.std.proofs.Common.{length}
use Rattle.piece_sets.proofs.piece_set.+is_before.Given as goal

abbrev pub decreases-is_before : goal.decreases-is_before
decreases-is_before l = length l.left.now
