use Rattle.deck_case.proofs.DeckMeaning.{value_law}
use Rattle.deck_case.proofs.laws.value_is_the_objective_with_its_constant.Goals as goal

pub returns : goal.returns
returns c = value_law
