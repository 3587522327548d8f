use Rattle.std.proofs.Common.{length, ◌-◌}
use Rattle.dict.specs.Equations.{equation}
use Rattle.dict.proofs.Commons.{CommonSoFar}
use Rattle.dict.proofs.reduce.common.Given as goal

abbrev pub invariant-loop-i : goal.invariant-loop-i
invariant-loop-i l = CommonSoFar (equation l.fn.den l.fn.constant l.entries) l.entries l.i l.g

abbrev pub decreases-loop-i : goal.decreases-loop-i
decreases-loop-i l = length l.entries - l.i
