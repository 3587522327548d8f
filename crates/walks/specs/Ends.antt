-- What a solve of the program of an instance and a list of tight choices ends with.
use Rattle.std.specs.Prelude.{◌≡◌, ◌∷◌, ℕ, List, IsTrue}
use Rattle.lp_base.specs.Ascending.{ascends_by}
use Rattle.nogoods.specs.declared.choice.Choice.{Choice}
use Rattle.lpcc_case.specs.Instance.{Instance}
use Rattle.lpcc_case.specs.NarrowPoints.{AreNumbersOf, IsPointOf, Means}
use Rattle.lpcc_case.specs.Points as points
use Rattle.lpcc_case.specs.declared.point.Point.{Point}
use Rattle.lpcc_case.specs.declared.point.Ray.{Ray}
use Rattle.cuts.specs.declared.reason.WideAt.{WideAt}
use Rattle.cuts.specs.declared.reason.SpentAt.{SpentAt}
use Rattle.walks.specs.Divisors.{AreCoprime}
use Rattle.lpcc_case.specs.Forms.{number}
use Rattle.walks.specs.Walks.{IsSpentEnd, IsWideEnd}

-- the numbers of a point of the instance, in lowest terms, that meets all constraints and is tight at the choices
pub record IsPointAt (a : Instance) (tight : List Choice) (q : Point) : Type 0 where
  pub numbers : IsPointOf a q
  pub lowest : AreCoprime (q.d ∷ q.x)
  pub point : points.Point a.columns
  pub means : Means q point
  pub met : points.MeetsAll a point
  pub tight_there : points.IsTightAt a point tight

-- a direction of narrow numbers in lowest terms, in which the points that are tight at the choices can go without end, the cost falling
pub record IsRayAt (a : Instance) (tight : List Choice) (ray : Ray) : Type 0 where
  pub numbers : AreNumbersOf a ray.r
  pub lowest : AreCoprime ray.r
  pub recedes : points.Recedes a tight ray.r

-- after so many steps the next one leads to a wide dictionary with these nonbasic forms, given in their order
pub record IsWideAt (a : Instance) (tight : List Choice) (w : WideAt) : Type 0 where
  pub reached : IsWideEnd a tight w.pivots w.forms
  pub order : IsTrue (ascends_by (number a) w.forms)

-- in this stage as many pivots were made as may be, and another may follow
pub record IsSpentAt (a : Instance) (tight : List Choice) (budget : ℕ) (s : SpentAt) : Type 0 where
  pub made : s.pivots ≡ budget
  pub reached : IsSpentEnd a tight s.stage budget
