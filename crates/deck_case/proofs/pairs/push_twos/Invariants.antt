use Rattle.std.proofs.Common.{◌≡◌, ◌++◌, All, length, map}
use Rattle.decks.specs.Decks.{NamesQuantity, twos}
use Rattle.deck_case.specs.DeckCases.{pair_of}
use Rattle.deck_case.proofs.pairs.push_twos.Given as goal

abbrev pub invariant-loop-first : goal.invariant-loop-first
invariant-loop-first l = record {
  made : l.made ++ map (pair_of l.deck) (twos l.rest) ≡ l.fn.made ++ map (pair_of l.deck) (twos l.items);
  named : All (NamesQuantity l.deck) l.rest;
}

abbrev pub decreases-loop-first : goal.decreases-loop-first
decreases-loop-first l = length l.rest
