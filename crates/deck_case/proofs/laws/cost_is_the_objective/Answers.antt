use Rattle.deck_case.proofs.DeckMeaning.{cost_law}
use Rattle.deck_case.proofs.laws.cost_is_the_objective.Goals as goal

pub returns : goal.returns
returns c = cost_law
