use Rattle.std.proofs.Common.{◌≡◌, ◌+◌, All, length, false}
use Rattle.best.specs.Passes.{IsNewPassOf}
use Rattle.best.proofs.calls.make_passes.Given as goal

abbrev pub invariant-loop : goal.invariant-loop
invariant-loop g l = record {
  ours : l.seat.table_id ≡ l.best.table.shared.table_id;
  idle : l.seat.me.0.waits ≡ false;
  out : l.seat.me.0.turns ≡ false;
  left : l.seat.me.0.makes + l.counter ≡ l.passes;
  new : All (IsNewPassOf l.best) l.made.items;
  size : length l.made.items ≡ l.counter;
}
