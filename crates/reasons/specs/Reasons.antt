-- Why a choice of a cut cannot be dropped: what the program of the other choices has or ends with.
use Rattle.std.specs.Prelude.{◌≡◌, ℕ, ℤ, ◌*ℤ◌, ◌≤ℤ◌, List, Option, Some, None, map, slice_get}
use Rattle.std.specs.List.{remove}
use Rattle.nogoods.specs.declared.choice.Choice.{Choice}
use Rattle.lpcc_case.specs.Instance.{Instance}
use Rattle.lpcc_case.specs.Points as points
use Rattle.lpcc_case.specs.Points.{MeetsAll, IsTightAt, Recedes}
use Rattle.lpcc_case.specs.NarrowPoints.{AreNumbersOf, IsPointOf, IsBelow, Means}
use Rattle.lpcc_case.specs.declared.point.Point.{Point}
use Rattle.lpcc_case.specs.declared.point.Ray.{Ray}
use Rattle.cuts.specs.declared.cut.Cut.{Cut}
use Rattle.cuts.specs.declared.cut.Cut.TheVariants as cut
use Rattle.cuts.specs.declared.reason.Reason.{Reason}
use Rattle.cuts.specs.declared.reason.Reason.TheVariants as reason
use Rattle.walks.specs.Ends.{IsSpentAt, IsWideAt}

-- ---- points as the code keeps them

-- what the numbers of a point mean has this
abbrev pub Has : (a : Instance) → Point → (points.Point a.columns → Type 0) → Type 0
Has a q P = (p : points.Point a.columns) → Means q p → P p

-- a point of the system of all constraints and these choices
pub record IsIn (a : Instance) (tight : List Choice) (p : points.Point a.columns) : Type 0 where
  pub met : MeetsAll a p
  pub tight_there : IsTightAt a p tight

-- a limit is the narrow numbers of a point of the instance, or there is none
abbrev pub IsLimit : Instance → Option Point → Type 0
IsLimit a None = Unit {0}
IsLimit a (Some limit) = IsPointOf a limit

-- lower than the limit, where there is one
abbrev pub IsUnder : Point → Option Point → Type 0
IsUnder q None = Unit {0}
IsUnder q (Some limit) = IsBelow q limit

-- a ray cut is always active; a point cut is active against a limit whose value is at most its bound v / e
abbrev pub IsActiveAgainst : Cut → Option Point → Type 0
IsActiveAgainst (cut.Ray ng mult) limit = Unit {0}
IsActiveAgainst (cut.Point ng mult e v) None = ⊥
IsActiveAgainst (cut.Point ng mult e v) (Some limit) = (e *ℤ limit.z) ≤ℤ (v *ℤ limit.d)

-- ---- reasons

-- numbers of a point of the system of these choices
pub record IsPointIn (a : Instance) (tight : List Choice) (q : Point) : Type 0 where
  pub numbers : IsPointOf a q
  pub inside : Has a q (IsIn a tight)

-- narrow numbers of a direction in which the points of that system can go without end, the cost falling
pub record IsRayFor (a : Instance) (tight : List Choice) (ray : Ray) : Type 0 where
  pub numbers : AreNumbersOf a ray.r
  pub recedes : Recedes a tight ray.r

-- what shows that the program of these choices is not bounded by the limit, or where its walk ends without an answer
abbrev pub IsTrueReason : Instance → ℕ → Option Point → List Choice → Reason → Type 0
IsTrueReason a budget limit tight (reason.Below q) = IsPointIn a tight q × IsUnder q limit
IsTrueReason a budget limit tight (reason.Unbounded q ray) = IsPointIn a tight q × IsRayFor a tight ray
IsTrueReason a budget limit tight (reason.Wide at) = IsWideAt a tight at
IsTrueReason a budget limit tight (reason.Spent at) = IsSpentAt a tight budget at

abbrev pub choice_kept : Choice × Reason → Choice
choice_kept k = k.0

-- each choice of the no-good once, in order, with a reason that is true for the other choices
pub record AreReasons (a : Instance) (budget : ℕ) (limit : Option Point) (ng : List Choice) (kept : List (Choice × Reason)) : Type 0 where
  pub names : map choice_kept kept ≡ ng
  pub reasons : (k : ℕ) (x : Choice × Reason) → slice_get kept k ≡ Some x → IsTrueReason a budget limit (remove ng k) x.1
