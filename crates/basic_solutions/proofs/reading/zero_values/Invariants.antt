use Rattle.std.proofs.Common.{ℕ, ◌≡◌, length, pos}
use Rattle.basic_solutions.specs.Readings.{fraction, value_in}
use Rattle.basic_solutions.proofs.reading.zero_values.Given as goal

abbrev pub invariant-loop : goal.invariant-loop
invariant-loop l = record {
  size : length l.values.items ≡ l.counter;
  zero : (c : ℕ) → value_in l.values.items c ≡ fraction (pos 0) (pos 1);
}
