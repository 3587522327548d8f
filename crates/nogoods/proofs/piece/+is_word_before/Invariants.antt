use Rattle.std.proofs.Common.{length}
use Rattle.nogoods.proofs.piece.+is_word_before.Given as goal

abbrev pub decreases-is_word_before : goal.decreases-is_word_before
decreases-is_word_before l = length l.left.now
