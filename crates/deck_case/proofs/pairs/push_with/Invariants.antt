use Rattle.std.proofs.Common.{◌≡◌, ◌++◌, map, take}
use Rattle.deck_case.specs.DeckCases.{pair_of}
use Rattle.deck_case.specs.Steps.{pair_with}
use Rattle.deck_case.proofs.pairs.push_with.Given as goal

abbrev pub invariant-loop-other : goal.invariant-loop-other
invariant-loop-other l = l.made ≡ l.fn.made ++ map (pair_of l.deck) (map (pair_with l.first) (take l.other-index l.others))
