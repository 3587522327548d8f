use Rattle.std.proofs.Common.{◌≡◌}
use Rattle.pool_tests.proofs.lane_tests.publish_often.Given as goal

abbrev pub invariant-loop : goal.invariant-loop
invariant-loop l = l.shelf.case ≡ l.fn.shelf.case
