use Rattle.std.proofs.Common.{◌≡◌}
use Rattle.best.proofs.turn.await_turn.Given as goal

abbrev pub invariant-loop : goal.invariant-loop
invariant-loop g l = record {
  same : l.seat.me ≡ l.fn.seat.me;
  ours : l.seat.table_id ≡ l.fn.seat.table_id;
}
