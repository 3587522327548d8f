use Rattle.front_deck.proofs.Meaning.{lcp_case, lcp_points}
use Rattle.front_deck.proofs.laws.printed_lcp_decks_mean_their_problems.Goals as goal

pub returns-clause-case : goal.returns-clause-case
returns-clause-case c = lcp_case

pub returns-clause-points : goal.returns-clause-points
returns-clause-points c = lcp_points
