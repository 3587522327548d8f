use Rattle.std.proofs.Common.{◌≡◌, ◌++◌, map, take}
use Rattle.decks.specs.Decks.{group_pairs}
use Rattle.deck_case.specs.DeckCases.{pair_of}
use Rattle.deck_case.proofs.pairs.push_groups.Given as goal

abbrev pub invariant-loop-group : goal.invariant-loop-group
invariant-loop-group l = l.made ≡ l.fn.made ++ map (pair_of l.deck) (group_pairs (take l.group-index l.deck.groups))
