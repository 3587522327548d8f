use Rattle.std.proofs.Common.{arith, refl}
use Rattle.cut_pool.proofs.Counting.{counts_same}
use Rattle.cut_pool.proofs.counts.has_counts.Goals as goal

pub returns : goal.returns
returns c = ((λ _. counts_same c.args.reach.now.lanes c.args.handed.now c.requires (λ j lt. c.loop-lane.invariant j (omega (arith, lt, c.loop-lane-test.false)))), λ _. refl)
