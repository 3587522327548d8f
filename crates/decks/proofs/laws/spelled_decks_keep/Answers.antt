use Rattle.decks.proofs.Kept.{spelled_keeps}
use Rattle.decks.proofs.laws.spelled_decks_keep.Goals as goal

pub returns : goal.returns
returns c = spelled_keeps
