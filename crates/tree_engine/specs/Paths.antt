-- Paths: the choices on the way from the root of a tree to a node, their pairs ascending.
use Rattle.std.specs.Prelude.{◌≡◌, ◌<◌, ◌⊎◌, ℕ, nat_lt, if◌then◌else◌, List, [], ◌∷◌, Any, Some, length, map, slice_get}
use Rattle.nogoods.specs.declared.choice.Choice.{Choice}
use Rattle.nogoods.specs.declared.choice.Side.{Side}
use Rattle.nogoods.specs.declared.choice.Side.TheVariants.{A, B}
use Rattle.lpcc_case.specs.Instance.{Instance, chosen}
use Rattle.lpcc_case.specs.Points.{Point, IsTight}
use Rattle.lpcc_case.specs.declared.point.Point.{Point as NarrowPoint}
use Rattle.reasons.specs.Reasons.{Has}
use Rattle.cert_check.specs.Acceptance.{IsWholePiece}

abbrev pub choice_of : ℕ → Side → Choice
choice_of pair side = record { pair = pair; side = side }

abbrev pub side_of : Choice → Side
side_of c = c.side

-- the path with one choice more
abbrev pub with_choice : Choice → List Choice → List Choice
with_choice c [] = c ∷ []
with_choice c (d ∷ path) = if nat_lt c.pair d.pair then c ∷ d ∷ path else d ∷ with_choice c path

-- the path with side A of a pair
abbrev pub first_side : ℕ → List Choice → List Choice
first_side pair path = with_choice (choice_of pair A) path

-- the path with side B of a pair
abbrev pub second_side : ℕ → List Choice → List Choice
second_side pair path = with_choice (choice_of pair B) path

-- the path has a choice of this pair
abbrev pub IsOn : List Choice → ℕ → Type 0
IsOn path pair = Any (λ c. c.pair ≡ pair) path

-- a pair of the instance that is not on the path
abbrev pub IsFree : Instance → List Choice → ℕ → Type 0
IsFree a path pair = (pair < length a.pairs) × (IsOn path pair → ⊥)

-- the choice at this place is of a pair behind this one
abbrev pub IsBehind : List Choice → ℕ → ℕ → Type 0
IsBehind path k pair = (c : Choice) × (slice_get path k ≡ Some c) × (pair < c.pair)

-- the choice at this place is of the pair of this number
abbrev pub IsInPlace : List Choice → ℕ → Type 0
IsInPlace path k = (c : Choice) × (slice_get path k ≡ Some c) × (c.pair ≡ k)

-- the first pair that is not on the path
pub record IsFirstFree (a : Instance) (path : List Choice) (pair : ℕ) : Type 0 where
  pub free : IsFree a path pair
  pub first : (k : ℕ) → k < pair → IsOn path k

-- a member of the pair is tight
abbrev pub HasTightSide : (a : Instance) → Point a.columns → ℕ → Type 0
HasTightSide a p pair = IsTight p (chosen a (choice_of pair A)) ⊎ IsTight p (chosen a (choice_of pair B))

-- the first pair without a tight member
pub record IsFirstLoose (a : Instance) (q : NarrowPoint) (pair : ℕ) : Type 0 where
  pub named : pair < length a.pairs
  pub loose : Has a q (λ p. HasTightSide a p pair → ⊥)
  pub first : (k : ℕ) → k < pair → Has a q (λ p. HasTightSide a p k)

-- the path has one choice for each pair, and the piece its sides
pub record ArePieceChoices (a : Instance) (piece : List Side) (path : List Choice) : Type 0 where
  pub pairs : IsWholePiece a path
  pub sides : piece ≡ map side_of path
