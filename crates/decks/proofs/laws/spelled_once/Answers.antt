use Rattle.decks.proofs.Relations.{one_deck}
use Rattle.decks.proofs.laws.spelled_once.Goals as goal

pub returns : goal.returns
returns c = one_deck
