use Rattle.std.proofs.Common.{◌≡◌, ℕ, Some, length, slice_get, take}
use Rattle.cuts.specs.declared.reason.Reason.{Reason}
use Rattle.shrink.specs.Trials.{AreCarried}
use Rattle.shrink.proofs.found.carried.Given as goal

abbrev pub invariant-loop-choice : goal.invariant-loop-choice
invariant-loop-choice l = record {
  size : length l.found.items ≡ length l.fn.found.items;
  rest : (k : ℕ) (r : Reason) → slice_get l.found.items k ≡ Some (Some r) → slice_get l.fn.found.items k ≡ Some (Some r);
  so_far : AreCarried l.fn.old (take l.choice-index l.choices) l.fn.found.items l.made.items;
}
