use Rattle.std.proofs.Common.{length}
use Rattle.play.proofs.same.+same_choices.Given as goal

abbrev pub decreases-same_choices : goal.decreases-same_choices
decreases-same_choices l = length l.left.now
