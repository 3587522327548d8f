use Rattle.std.proofs.Common.{◌≡◌, ℕ, ◌<◌, pos, length, get_or, take}
use Rattle.lpcc_case.specs.Points.{coefficient}
use Rattle.deck_case.proofs.objective.dense.Given as goal

abbrev pub invariant-loop-column : goal.invariant-loop-column
invariant-loop-column l = record {
  long : length l.row.items ≡ l.columns;
  each : (j : ℕ) → j < l.columns → get_or l.row.items j (pos 0) ≡ coefficient (take l.column-index l.terms) j;
}
