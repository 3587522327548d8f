use Rattle.std.proofs.Common.{◌≡◌, ◌++◌, map, take}
use Rattle.deck_case.specs.DeckCases.{pair_of}
use Rattle.deck_case.proofs.pairs.push_pairs.Given as goal

abbrev pub invariant-loop-pair : goal.invariant-loop-pair
invariant-loop-pair l = l.made ≡ l.fn.made ++ map (pair_of l.deck) (take l.pair-index l.deck.pairs)
