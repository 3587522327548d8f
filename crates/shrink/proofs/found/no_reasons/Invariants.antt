use Rattle.std.proofs.Common.{◌≡◌, ℕ, Some, length}
use Rattle.std.specs.Prelude.{slice_get}
use Rattle.cuts.specs.declared.reason.Reason.{Reason}
use Rattle.shrink.proofs.found.no_reasons.Given as goal

abbrev pub invariant-loop : goal.invariant-loop
invariant-loop l = record {
  size : length l.found.items ≡ l.counter;
  none : (k : ℕ) (r : Reason) → slice_get l.found.items k ≡ Some (Some r) → ⊥;
}
