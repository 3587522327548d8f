use Rattle.deck_case.proofs.VerdictMeaning.{limits_law}
use Rattle.deck_case.proofs.laws.a_decks_case_keeps_the_limits.Goals as goal

pub returns : goal.returns
returns c = limits_law
