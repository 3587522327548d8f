use Rattle.tree_engine.proofs.Pieces.{direction_shows}
use Rattle.tree_engine.proofs.laws.direction_shows_unbounded.Goals as goal

pub returns : goal.returns
returns c a piece point ray h = direction_shows a piece point ray h
