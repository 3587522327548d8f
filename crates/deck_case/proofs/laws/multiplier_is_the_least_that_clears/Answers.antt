use Rattle.deck_case.proofs.Multiples.{least_law}
use Rattle.deck_case.proofs.laws.multiplier_is_the_least_that_clears.Goals as goal

pub returns : goal.returns
returns c = least_law
