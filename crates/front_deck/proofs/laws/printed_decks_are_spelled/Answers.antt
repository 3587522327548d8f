use Rattle.front_deck.proofs.BilevelPrinted as bilevel
use Rattle.front_deck.proofs.LcpPrinted as lcp
use Rattle.front_deck.proofs.laws.printed_decks_are_spelled.Goals as goal

pub returns-clause-lcp : goal.returns-clause-lcp
returns-clause-lcp c = lcp.spelled

pub returns-clause-bilevel : goal.returns-clause-bilevel
returns-clause-bilevel c = bilevel.spelled
