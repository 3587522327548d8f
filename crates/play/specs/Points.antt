-- Points as the code keeps them: which are feasible, which are lower, and what a cut's bound says of them.
use Rattle.std.specs.Prelude.{◌+◌, ℕ, ◌*ℤ◌, Bool, int_lt, if◌then◌else◌, List, [], ◌∷◌, Option, Some, None}
use Rattle.nogoods.specs.declared.choice.Choice.{Choice}
use Rattle.nogoods.specs.declared.choice.Side.{Side}
use Rattle.lpcc_case.specs.Instance.{Instance}
use Rattle.lpcc_case.specs.Points.{IsFeasible, Recedes}
use Rattle.lpcc_case.specs.Pieces.{IsPiece, LiesIn}
use Rattle.lpcc_case.specs.NarrowPoints.{AreNumbersOf, IsPointOf}
use Rattle.lpcc_case.specs.declared.point.Point.{Point}
use Rattle.lpcc_case.specs.declared.point.Ray.{Ray}
use Rattle.reasons.specs.Reasons.{Has}
use Rattle.play.specs.declared.event.Direction.{Direction}

-- narrow numbers of a feasible point
pub record IsCandidate (a : Instance) (q : Point) : Type 0 where
  pub of : IsPointOf a q
  pub feasible : Has a q (IsFeasible a)

abbrev pub IsBest : Instance → Option Point → Type 0
IsBest a None = Unit {0}
IsBest a (Some q) = IsCandidate a q

-- the first is lower
abbrev pub is_below : Point → Point → Bool
is_below q r = int_lt (q.z *ℤ r.d) (r.z *ℤ q.d)

-- the best point behind an offer: the offer where it is lower, or there was none
abbrev pub lowered : Option Point → Option Point → Option Point
lowered old None = old
lowered None (Some q) = Some q
lowered (Some r) (Some q) = if is_below q r then Some q else Some r

-- one choice for each pair from this number on
abbrev pub choices_from : ℕ → List Side → List Choice
choices_from k [] = []
choices_from k (s ∷ sides) = (record { pair = k; side = s }) ∷ choices_from (k + 1) sides

-- the choices of a piece
abbrev pub choices_of : List Side → List Choice
choices_of sides = choices_from 0 sides

abbrev pub direction : List Side → Point → Ray → Direction
direction piece point ray = record { piece = piece; point = point; ray = ray }

-- the point lies in the piece, and the ray recedes for it
pub record IsDirection (a : Instance) (x : Direction) : Type 0 where
  pub piece : IsPiece a x.piece
  pub point : IsPointOf a x.point
  pub numbers : AreNumbersOf a x.ray.r
  pub lies : Has a x.point (LiesIn a x.piece)
  pub recedes : Recedes a (choices_of x.piece) x.ray.r

abbrev pub IsKept : Instance → Option Direction → Type 0
IsKept a None = Unit {0}
IsKept a (Some x) = IsDirection a x
