use Rattle.std.proofs.Common.{length}
use Rattle.edit_session.specs.Rounds.{IsSifted}
use Rattle.edit_session.proofs.taking.take_up_waiting.Given as goal

abbrev pub decreases-loop-cut : goal.decreases-loop-cut
decreases-loop-cut l = length l.waiting.items

abbrev pub invariant-loop-cut : goal.invariant-loop-cut
invariant-loop-cut l = IsSifted l.case l.fn.desk l.fn.waiting.items l.desk l.waiting.items l.rest.items
