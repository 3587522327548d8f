use Rattle.std.proofs.Common.{arith, refl}
use Rattle.lp_io.proofs.Moves.{reads_past, reads_within}
use Rattle.lp_io.proofs.take.take_all.Goals as goal

pub returns-then-count-limit-clause-front : goal.returns-then-count-limit-clause-front
returns-then-count-limit-clause-front g c =
    reads_past _ _ _ c.loop-count.taken.items c.read.new.into c.in-Ok.count c.args.limit _ refl c.loop-count.invariant.read c.in-Ok.ensures.taken.0 (omega arith) (omega arith) c.in-Ok.ensures.within

pub returns-in-Err-clause-front : goal.returns-in-Err-clause-front
returns-in-Err-clause-front g c =
    reads_within _ _ _ c.loop-count.taken.items c.read.new.into c.in-Ok.count c.args.limit _ (λ p. (cc)) c.loop-count.invariant.read c.in-Ok.ensures.taken.0 (omega arith) (omega arith) c.in-Ok.ensures.within
