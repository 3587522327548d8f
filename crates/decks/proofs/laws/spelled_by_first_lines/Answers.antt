use Rattle.decks.proofs.Behind.{within, alone, ended, whatever_follows}
use Rattle.decks.proofs.laws.spelled_by_first_lines.Goals as goal

pub returns : goal.returns
returns c = record { within = within; alone = alone; ended = ended; whatever_follows = whatever_follows }
