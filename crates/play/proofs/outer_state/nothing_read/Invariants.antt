use Rattle.std.proofs.Common.{◌≡◌, replicate}
use Rattle.play.proofs.outer_state.nothing_read.Given as goal

abbrev pub invariant-loop : goal.invariant-loop
invariant-loop l = l.read.items ≡ replicate l.counter (replicate l.workers 0)
