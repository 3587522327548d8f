use Rattle.front_deck.proofs.Meaning.{bilevel_case, bilevel_points}
use Rattle.front_deck.proofs.laws.printed_bilevel_decks_mean_their_problems.Goals as goal

pub returns-clause-case : goal.returns-clause-case
returns-clause-case c = bilevel_case

pub returns-clause-points : goal.returns-clause-points
returns-clause-points c = bilevel_points
