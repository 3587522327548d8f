-- Pieces of the feasible set.
use Rattle.std.specs.Prelude.{◌≡◌, ◌<◌, List, All, Option, Some, None, length}
use Rattle.nogoods.specs.declared.choice.Choice.{Choice}
use Rattle.nogoods.specs.declared.choice.Side.{Side}
use Rattle.nogoods.specs.Pieces.{IsChoiceOf, Bars}
use Rattle.lpcc_case.specs.Instance.{Instance, chosen}
use Rattle.lpcc_case.specs.Points.{Point, MeetsAll, IsTight, IsLower}

-- each choice names a pair of the instance
abbrev pub NamesPairs : Instance → List Choice → Type 0
NamesPairs a choices = All (λ c. c.pair < length a.pairs) choices

-- one side for each pair
abbrev pub IsPiece : Instance → List Side → Type 0
IsPiece a sides = length sides ≡ length a.pairs

-- all constraints are met, and the chosen side of each pair is tight
pub record LiesIn (a : Instance) (sides : List Side) (p : Point a.columns) : Type 0 where
  pub met : MeetsAll a p
  pub tight : (c : Choice) → IsChoiceOf sides c → IsTight p (chosen a c)

-- no point lies in the piece
abbrev pub HoldsNoPoint : Instance → List Side → Type 0
HoldsNoPoint a sides = (p : Point a.columns) → LiesIn a sides p → ⊥

-- every piece that the no-good bars is without points
abbrev pub BarsOnlyEmptyPieces : Instance → List Choice → Type 0
BarsOnlyEmptyPieces a no_good = (sides : List Side) → IsPiece a sides → Bars no_good sides → HoldsNoPoint a sides

-- lower than the best point, or there is none yet
abbrev pub Improves : (a : Instance) → Point a.columns → Option (Point a.columns) → Type 0
Improves a p None = Unit {0}
Improves a p (Some best) = IsLower a p best

-- in no piece that the no-good bars lies a point that is lower than the best one; without a best one, no point at all
abbrev pub BarsNothingLower : (a : Instance) → Option (Point a.columns) → List Choice → Type 0
BarsNothingLower a best no_good =
    (sides : List Side) → IsPiece a sides → Bars no_good sides → (p : Point a.columns) → LiesIn a sides p → Improves a p best → ⊥
