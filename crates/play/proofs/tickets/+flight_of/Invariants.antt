use Rattle.std.proofs.Common.{length}
use Rattle.play.proofs.tickets.+flight_of.Given as goal

abbrev pub decreases-flight_of : goal.decreases-flight_of
decreases-flight_of l = length l.flight.now
