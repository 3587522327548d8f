use Rattle.front_case.proofs.BilevelDeck as bilevel
use Rattle.front_case.proofs.LcpDeck as lcp
use Rattle.front_case.proofs.laws.problems_have_decks.Goals as goal

pub returns-clause-lcp : goal.returns-clause-lcp
returns-clause-lcp c = lcp.is_deck

pub returns-clause-bilevel : goal.returns-clause-bilevel
returns-clause-bilevel c = bilevel.is_deck
