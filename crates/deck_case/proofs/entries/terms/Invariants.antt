use Rattle.std.proofs.Common.{◌≡◌, false, take}
use Rattle.deck_case.specs.CaseParts.{coefficients, terms_of}
use Rattle.deck_case.specs.Wide.{has_wide}
use Rattle.deck_case.proofs.entries.terms.Given as goal

abbrev pub invariant-loop-entry : goal.invariant-loop-entry
invariant-loop-entry l = record {
  so_far : l.made ≡ terms_of l.multiplier (take l.entry-index l.entries);
  narrow : has_wide (coefficients l.made) ≡ false;
}
