use Rattle.deck_case.proofs.VerdictMeaning.{relaxed_law}
use Rattle.deck_case.proofs.laws.relaxed_verdicts_are_those_of_the_relaxed_deck.Goals as goal

pub returns : goal.returns
returns c = relaxed_law
