use Rattle.std.proofs.Common.{◌≡◌, ◌≤◌, ◌^◌, take}
use Rattle.deck_case.specs.CaseParts.{numbers_of}
use Rattle.deck_case.specs.Multipliers.{multiplier}
use Rattle.deck_case.proofs.numbers.multiplier.Given as goal

abbrev pub invariant-loop-entry : goal.invariant-loop-entry
invariant-loop-entry l = record {
  so_far : l.known ≡ multiplier (numbers_of l.fn.rhs l.fn.range (take l.entry-index l.entries));
  narrow : l.known ≤ 2 ^ 52;
}
