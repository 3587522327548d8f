use Rattle.std.proofs.Common.{ℕ, ◌≡◌, ◌<◌, length, get_or}
use Rattle.trimming.proofs.build.numbers_of.Given as goal

abbrev pub invariant-loop-place : goal.invariant-loop-place
invariant-loop-place l = (length l.numbers.items ≡ l.count) × ((j : ℕ) → j < l.place → get_or l.numbers.items (get_or l.places j 0) 0 ≡ j)
