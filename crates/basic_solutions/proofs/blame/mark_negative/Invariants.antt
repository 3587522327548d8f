use Rattle.std.proofs.Common.{length}
use Rattle.basic_solutions.proofs.BlameSteps.{NegativeUpto}
use Rattle.basic_solutions.proofs.blame.mark_negative.Given as goal

abbrev pub invariant-loop-multiplier : goal.invariant-loop-multiplier
invariant-loop-multiplier l = NegativeUpto l.mult l.multiplier-index l.marks (length l.fn.marks)
