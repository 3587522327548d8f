use Rattle.front_case.proofs.BilevelDeck as bilevel
use Rattle.front_case.proofs.LcpDeck as lcp
use Rattle.front_case.proofs.laws.problems_have_cases.Goals as goal

pub returns-clause-lcp : goal.returns-clause-lcp
returns-clause-lcp c = lcp.has_case

pub returns-clause-bilevel : goal.returns-clause-bilevel
returns-clause-bilevel c = bilevel.has_case
