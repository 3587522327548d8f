use Rattle.std.proofs.Common.{length}
use Rattle.desk.proofs.tickets.+has_just.Given as goal

abbrev pub decreases-has_just : goal.decreases-has_just
decreases-has_just l = length l.flight.now
