use Rattle.std.proofs.Common.{vec_len}
use Rattle.search.proofs.propagation.propagate.Given as goal

abbrev pub decreases-loop-waiting : goal.decreases-loop-waiting
decreases-loop-waiting l = vec_len l.waiting
