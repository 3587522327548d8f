use Rattle.search.proofs.WalkLaws.{walk_later}
use Rattle.search.proofs.kept.search_outlives_additions.Goals as goal

pub returns : goal.returns
returns c pairs ngs added blocked later s put kept = walk_later pairs ngs added blocked later s.walk.sides.items s.walk.reasons.items put kept
