use Rattle.front_deck.proofs.Meaning.{deck_of_bilevel, deck_of_lcp}
use Rattle.front_deck.proofs.laws.printed_decks_are_those_of_their_problems.Goals as goal

pub returns-clause-lcp : goal.returns-clause-lcp
returns-clause-lcp c = deck_of_lcp

pub returns-clause-bilevel : goal.returns-clause-bilevel
returns-clause-bilevel c = deck_of_bilevel
