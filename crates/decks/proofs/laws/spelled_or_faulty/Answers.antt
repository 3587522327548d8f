use Rattle.decks.proofs.Relations.{some, not_both, one_fault}
use Rattle.decks.proofs.laws.spelled_or_faulty.Goals as goal

pub returns : goal.returns
returns c = record { some = some; not_both = not_both; one_fault = one_fault }
