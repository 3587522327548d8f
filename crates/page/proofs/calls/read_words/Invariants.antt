use Rattle.std.proofs.Common.{◌≡◌, ◌<◌, ℕ, [], get_or, length}
use Rattle.page.proofs.calls.read_words.Given as goal

abbrev pub invariant-loop-k : goal.invariant-loop-k
invariant-loop-k g l = record {
  ours : l.seat.table_id ≡ l.fn.seat.table_id;
  same : l.seat.me ≡ l.fn.seat.me;
  size : length l.into ≡ length l.fn.into;
  so_far : (j : ℕ) → j < l.k → get_or l.into j 0 ≡ get_or (get_or l.fn.seat.me.0.seen l.fn.i []) j 0;
}
