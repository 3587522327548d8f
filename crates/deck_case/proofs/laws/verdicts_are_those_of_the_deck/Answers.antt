use Rattle.deck_case.proofs.VerdictMeaning.{verdict_law}
use Rattle.deck_case.proofs.laws.verdicts_are_those_of_the_deck.Goals as goal

pub returns : goal.returns
returns c = verdict_law
