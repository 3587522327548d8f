use Rattle.deck_case.proofs.Feasibility.{feasible_law}
use Rattle.deck_case.proofs.laws.feasible_exactly_where_the_deck_is_met.Goals as goal

pub returns : goal.returns
returns c = feasible_law
