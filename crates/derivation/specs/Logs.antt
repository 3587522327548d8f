-- Logs: no-goods that are known, and no-goods that follow from those before them.
use Rattle.std.specs.Prelude.{◌≡◌, ℕ, true, List, Option, Some, map, slice_get, take}
use Rattle.nogoods.specs.declared.choice.Choice.{Choice}
use Rattle.nogoods.specs.declared.choice.Side.{Side}
use Rattle.nogoods.specs.Pieces.{Bars}
use Rattle.lpcc_case.specs.Instance.{Instance}
pub use Rattle.lpcc_case.specs.Pieces.{NamesPairs}
use Rattle.lpcc_case.specs.Points.{Point}
use Rattle.lpcc_case.specs.Pieces.{BarsNothingLower, BarsOnlyEmptyPieces}
use Rattle.derivation.specs.declared.step.Step.{Step}
use Rattle.derivation.specs.declared.step.Step.TheVariants.{Start, Derived}
use Rattle.derivation.specs.HintRuns.{NamesBelow, closes}

abbrev pub no_good_of : Step → List Choice
no_good_of (Start ng) = ng
no_good_of (Derived ng hints) = ng

abbrev pub no_goods : List Step → List (List Choice)
no_goods log = map no_good_of log

-- the step follows from the no-goods before it
abbrev pub Follows : List (List Choice) → Step → Type 0
Follows earlier (Start ng) = Unit {0}
Follows earlier (Derived ng hints) = closes earlier ng hints ≡ true

-- each derived step follows from the steps before it
abbrev pub IsLog : List Step → Type 0
IsLog log = (k : ℕ) (step : Step) → slice_get log k ≡ Some step → Follows (no_goods (take k log)) step

-- each starting no-good names pairs below this
abbrev pub StartsName : ℕ → List Step → Type 0
StartsName pairs log = (k : ℕ) (ng : List Choice) → slice_get log k ≡ Some (Start ng) → NamesBelow pairs ng

-- one of the starting no-goods bars the piece
abbrev pub IsBarredByStart : List Step → List Side → Type 0
IsBarredByStart log sides = (k : ℕ) × (ng : List Choice) × (slice_get log k ≡ Some (Start ng)) × Bars ng sides

-- each starting no-good bars only pieces without points
abbrev pub StartsAreTrue : Instance → List Step → Type 0
StartsAreTrue a log = (k : ℕ) (ng : List Choice) → slice_get log k ≡ Some (Start ng) → BarsOnlyEmptyPieces a ng

-- each starting no-good bars only pieces without a point lower than the best one
abbrev pub StartsBarNothingLower : (a : Instance) → Option (Point a.columns) → List Step → Type 0
StartsBarNothingLower a best log = (k : ℕ) (ng : List Choice) → slice_get log k ≡ Some (Start ng) → BarsNothingLower a best ng
