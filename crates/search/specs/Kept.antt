-- What a search that is kept says of its log.
use Rattle.std.specs.Prelude.{ℕ, List, false}
use Rattle.nogoods.specs.declared.choice.Choice.{Choice}
use Rattle.nogoods.specs.declared.choice.Side.{Side}
use Rattle.search.specs.declared.kept.Search.{Search}
use Rattle.search.specs.Walks.{IsWalk}

-- each piece before those that begin with its sides is barred or blocked
abbrev pub Keeps : ℕ → List (List Choice) → List (List Side) → Search → Type 0
Keeps pairs ngs blocked s = IsWalk false pairs ngs blocked s.walk.sides.items s.walk.reasons.items
