-- What an answer of a solve shows.
use Rattle.std.proofs.Common.{◌≡◌, ℕ, ◌<◌, ℤ, pos, ◌*ℤ◌, ◌≤ℤ◌, Bool, false, List, Option, Some, None, sym, ap, ◌∙◌, arith, subst}
use Rattle.std.specs.Prelude.{IsTrue, ◌↔◌}
use Rattle.std.proofs.lemmas.Int.{ints, by_lt_z}
use Rattle.lp_base.proofs.Ring.{le_of_mul_right, mul_assoc, mul_le_left, mul_swap}
use Rattle.nogoods.specs.declared.choice.Choice.{Choice}
use Rattle.lpcc_case.specs.Instance.{Instance}
use Rattle.lpcc_case.specs.declared.point.Point.{Point}
use Rattle.cuts.specs.Cuts.{Passes}
use Rattle.cuts.specs.declared.cut.Cut.{Cut}
use Rattle.cuts.specs.declared.cut.Cut.TheVariants as cut_of
use Rattle.walks.specs.Duals.{blamed}
use Rattle.walks.specs.Ends.{IsPointAt}
use Rattle.lex_simplex.specs.Answers.{IsPointCutOf, IsRayCutOf}
use Rattle.reasons.specs.Reasons.{IsActiveAgainst, IsUnder}
use Rattle.probe.specs.Answers.{IsCutWithin}
use Rattle.shrink.proofs.Blamed.{blamed_fewer, blamed_within}

pub ray_within : (a : Instance) (limit : Option Point) (tight : List Choice) (cut : Cut) → IsRayCutOf a tight cut → IsCutWithin a limit tight cut
ray_within a limit tight cut of =
    let made : IsCutWithin a limit tight (cut_of.Ray (blamed a of.mult tight) of.mult) = record {
      passes = subst (Passes a) of.cut_is of.passes;
      active = tt;
      choices = blamed_within a of.mult tight;
      fewer = blamed_fewer a of.mult tight;
    } in
    subst (IsCutWithin a limit tight) (sym of.cut_is) made

-- a bound v / e that is the value of a point, where the point is not below the limit
above_limit : (n : ℕ) (e v qz lz ld : ℤ) → 0 < n → pos 1 ≤ℤ e → (e *ℤ qz) ≡ (v *ℤ pos n) → (lz *ℤ pos n) ≤ℤ (qz *ℤ ld) → (e *ℤ lz) ≤ℤ (v *ℤ ld)
above_limit n e v qz lz ld positive e_positive bound above =
    let times : (e *ℤ (lz *ℤ pos n)) ≤ℤ (e *ℤ (qz *ℤ ld)) = mul_le_left e (lz *ℤ pos n) (qz *ℤ ld) (omega (arith, ints)) above in
    let right : e *ℤ (qz *ℤ ld) ≡ (v *ℤ ld) *ℤ pos n = sym (mul_assoc e qz ld) ∙ ap (λ z. z *ℤ ld) bound ∙ mul_swap v (pos n) ld in
    le_of_mul_right n (e *ℤ lz) (v *ℤ ld) positive (omega (arith, ints, times, right, mul_assoc e lz (pos n)))

active_bound : (a : Instance) (limit : Option Point) (tight ng : List Choice) (mult : List (ℕ × ℤ)) (e v : ℤ) (q : Point) → (IsUnder q limit → ⊥) → IsPointAt a tight q → pos 1 ≤ℤ e → (e *ℤ q.z) ≡ (v *ℤ q.d) → IsActiveAgainst (cut_of.Point ng mult e v) limit
active_bound a None tight ng mult e v q above at e_positive bound = above tt
active_bound a (Some l) tight ng mult e v q above at e_positive bound =
    let d : pos at.point.d ≡ q.d = at.means.1 in
    let not_below : (l.z *ℤ q.d) ≤ℤ (q.z *ℤ l.d) = by_lt_z (q.z *ℤ l.d) (l.z *ℤ q.d) (λ lower. absurd (above lower)) (λ h. h) in
    above_limit at.point.d e v q.z l.z l.d at.point.positive e_positive (bound ∙ ap (λ z. v *ℤ z) (sym d)) (subst (λ z. (l.z *ℤ z) ≤ℤ (q.z *ℤ l.d)) (sym d) not_below)

point_within : (a : Instance) (limit : Option Point) (tight : List Choice) (q : Point) (cut : Cut) → (IsUnder q limit → ⊥) → IsPointAt a tight q → IsPointCutOf a tight q cut → IsCutWithin a limit tight cut
point_within a limit tight q cut above at of =
    let passes : Passes a (cut_of.Point (blamed a of.mult tight) of.mult of.e of.v) = subst (Passes a) of.cut_is of.passes in
    let made : IsCutWithin a limit tight (cut_of.Point (blamed a of.mult tight) of.mult of.e of.v) = record {
      passes = passes;
      active = active_bound a limit tight (blamed a of.mult tight) of.mult of.e of.v q above at passes.sums.0 of.bound;
      choices = blamed_within a of.mult tight;
      fewer = blamed_fewer a of.mult tight;
    } in
    subst (IsCutWithin a limit tight) (sym of.cut_is) made

pub optimum_within : (a : Instance) (limit : Option Point) (tight : List Choice) (q : Point) (cut : Cut) (t : Bool) → t ≡ false → IsTrue t ↔ IsUnder q limit → IsPointAt a tight q → IsPointCutOf a tight q cut → IsCutWithin a limit tight cut
optimum_within a limit tight q cut t e tells at of = point_within a limit tight q cut (λ under. let passed = tells.1 under in cc) at of
