-- A test of tightness behind one of the constraints.
use Rattle.std.proofs.Common.{◌≡◌, Bool, true, false, List}
use Rattle.std.specs.Prelude.{IsTrue, ◌↔◌}
use Rattle.nogoods.specs.declared.choice.Choice.{Choice}
use Rattle.lpcc_case.specs.Instance.{Instance}
use Rattle.lpcc_case.specs.Points as points
use Rattle.lpcc_case.specs.Points.{IsTightAt, MeetsAll}
use Rattle.lpcc_case.specs.NarrowPoints.{IsPointOf, Means}
use Rattle.lpcc_case.specs.declared.point.Point.{Point}
use Rattle.lpcc_case.proofs.Meanings.{means_one}
use Rattle.reasons.specs.Reasons.{Has, IsIn}

pub in_where : (a : Instance) (tight : List Choice) (q : Point) (t u : Bool) → IsPointOf a q → t ≡ true → ((p : points.Point a.columns) → Means q p → IsTrue t ↔ MeetsAll a p) → ((p : points.Point a.columns) → Means q p → IsTrue u ↔ IsTightAt a p tight) → IsTrue u ↔ Has a q (IsIn a tight)
in_where a tight q t u of passed met tells = (
  λ there p means. record { met = (met p means).0 passed; tight_there = (tells p means).0 there },
  λ inside. let m = means_one a q of.fits in (tells m.0 m.1).1 (inside m.0 m.1).tight_there,
)

pub not_in_where : (a : Instance) (tight : List Choice) (q : Point) (t : Bool) → IsPointOf a q → t ≡ false → ((p : points.Point a.columns) → Means q p → IsTrue t ↔ MeetsAll a p) → IsTrue t ↔ Has a q (IsIn a tight)
not_in_where a tight q t of failed met =
    (λ passed. let clash : ⊥ = cc in absurd clash, λ inside. let m = means_one a q of.fits in (met m.0 m.1).1 (inside m.0 m.1).met)
