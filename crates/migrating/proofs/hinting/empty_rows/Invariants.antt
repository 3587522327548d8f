use Rattle.std.proofs.Common.{ℕ, ◌≡◌, [], get_or, length}
use Rattle.migrating.proofs.hinting.empty_rows.Given as goal

abbrev pub invariant-loop : goal.invariant-loop
invariant-loop l = (length l.rows.items ≡ l.counter) × ((k : ℕ) → get_or l.rows.items k [] ≡ [])
