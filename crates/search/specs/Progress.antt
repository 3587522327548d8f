-- What a step of the walk leads to.
use Rattle.std.specs.Prelude.{ℕ, Bool, List}
use Rattle.nogoods.specs.declared.choice.Choice.{Choice}
use Rattle.nogoods.specs.declared.choice.Side.{Side}
use Rattle.search.specs.declared.walk.Reason.{Reason}
use Rattle.search.specs.declared.found.Progress.{Progress}
use Rattle.search.specs.declared.found.Progress.TheVariants.{Go, End, Over}
use Rattle.search.specs.FirstPieces.{IsFound, HasEmpty}
use Rattle.search.specs.Walks.{AllExhausted, Witnessed, IsWalk, GoesOn}

-- the walk goes on with fewer moments to come, or ends with what the search finds
abbrev pub LeadsTo : Bool → ℕ → List (List Choice) → List (List Side) → List Side → List Reason → ℕ → Progress → Type 0
LeadsTo fresh pairs ngs blocked w reasons before (Go phase) = GoesOn fresh pairs ngs blocked w reasons phase before
LeadsTo fresh pairs ngs blocked w reasons before (End found) = IsFound pairs ngs blocked found × HasEmpty ngs found × IsWalk fresh pairs ngs blocked w reasons
LeadsTo fresh pairs ngs blocked w reasons before Over = AllExhausted pairs ngs blocked × Witnessed fresh pairs ngs blocked × IsWalk fresh pairs ngs blocked w reasons
