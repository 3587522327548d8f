-- What is active against a best point is active against a lower one.
use Rattle.std.proofs.Common.{inl, ℕ, ◌<◌, ◌≡◌, refl, sym, ap, ◌∙◌, subst, arith, ℤ, pos, negsuc, ◌*ℤ◌, ◌≤ℤ◌, ◌<ℤ◌, List, Option, Some, None}
use Rattle.std.proofs.lemmas.Int.{ints, by_lt_z}
use Rattle.lp_base.proofs.Ring.{mul_assoc, mul_swap, mul_le_left, mul_le_right, le_of_mul_right}
use Rattle.lp_base.specs.Sums.{dot}
use Rattle.nogoods.specs.declared.choice.Choice.{Choice}
use Rattle.lpcc_case.specs.Instance.{Instance}
use Rattle.lpcc_case.specs.Points as points
use Rattle.lpcc_case.specs.NarrowPoints.{IsPointOf, Means}
use Rattle.lpcc_case.specs.declared.point.Point.{Point}
use Rattle.cuts.specs.declared.cut.Cut.{Cut}
use Rattle.cuts.specs.declared.cut.Cut.TheVariants as cut
use Rattle.cuts.specs.Cuts.{Passes, IsActive}
use Rattle.reasons.specs.Reasons.{IsActiveAgainst, IsLimit, IsUnder}
use Rattle.tree_engine.specs.Bests.{IsBest, IsCandidate, IsNoHigher}
use Rattle.tree_engine.specs.Closings.{KeepsActive}
use Rattle.tree_engine.specs.Runs.{FallsTo}

at_most : (e v z w : ℤ) (m n : ℕ) → pos 0 ≤ℤ e → 0 < m → (w *ℤ pos m) ≤ℤ (z *ℤ pos n) → (e *ℤ z) ≤ℤ (v *ℤ pos m) → (e *ℤ w) ≤ℤ (v *ℤ pos n)
at_most e v z w m n he hm low bound =
    let first = mul_le_left e (w *ℤ pos m) (z *ℤ pos n) he low in
    let second = mul_le_right n (e *ℤ z) (v *ℤ pos m) bound in
    le_of_mul_right m (e *ℤ w) (v *ℤ pos n) hm (omega (arith, ints, first, second, mul_assoc e w (pos m), mul_assoc e z (pos n), mul_swap v (pos m) (pos n)))

at_most_z : (e v z w d f : ℤ) → pos 1 ≤ℤ e → pos 1 ≤ℤ d → pos 1 ≤ℤ f → (w *ℤ d) ≤ℤ (z *ℤ f) → (e *ℤ z) ≤ℤ (v *ℤ d) → (e *ℤ w) ≤ℤ (v *ℤ f)
at_most_z e v z w (pos m) (pos n) he hd hf low bound = at_most e v z w m n (omega (arith, ints, he)) (omega (arith, ints, hd)) low bound
at_most_z e v z w (pos m) (negsuc n) he hd hf low bound = absurd (omega (arith, ints, hf))
at_most_z e v z w (negsuc m) f he hd hf low bound = absurd (omega (arith, ints, hd))

active_lower : (a : Instance) (c : Cut) (q r : Point) → Passes a c → pos 1 ≤ℤ q.d → pos 1 ≤ℤ r.d → (r.z *ℤ q.d) ≤ℤ (q.z *ℤ r.d) → IsActiveAgainst c (Some q) → IsActiveAgainst c (Some r)
active_lower a (cut.Ray ng mult) q r h hq hr low bound = tt
active_lower a (cut.Point ng mult e v) q r h hq hr low bound = at_most_z e v q.z r.z q.d r.d h.sums.0 hq hr low bound

active_any : (c : Cut) (best : Option Point) → IsActiveAgainst c None → IsActiveAgainst c best
active_any (cut.Ray ng mult) best h = tt
active_any (cut.Point ng mult e v) best h = absurd h

same_le : (x y : ℤ) → x ≡ y → x ≤ℤ y
same_le x y e = omega (arith, ints, e)

pub lower_keeps : (a : Instance) (old new : Option Point) → IsBest a old → IsBest a new → IsNoHigher new old → KeepsActive a old new
lower_keeps a None new hold hnew low c passes active = active_any c new active
lower_keeps a (Some q) None hold hnew low c passes active = absurd low
lower_keeps a (Some q) (Some r) hold hnew low c passes active = active_lower a c q r passes hold.of.fits.positive hnew.of.fits.positive low active

no_higher : (w z d f : ℤ) → (w *ℤ d) <ℤ (z *ℤ f) → (w *ℤ d) ≤ℤ (z *ℤ f)
no_higher w z d f lt = omega (arith, ints, lt)

pub under_keeps : (a : Instance) (old : Option Point) (q : Point) → IsBest a old → IsCandidate a q → IsUnder q old → KeepsActive a old (Some q)
under_keeps a None q hold of under = lower_keeps a None (Some q) hold of tt
under_keeps a (Some r) q hold of under = lower_keeps a (Some r) (Some q) hold of (no_higher q.z r.z r.d q.d under)

-- a bound that is the value of a point which is not lower than the best one
pub bound_active : (a : Instance) (best : Option Point) (ng : List Choice) (mult : List (ℕ × ℤ)) (e v : ℤ) (q : Point) → IsBest a best → pos 1 ≤ℤ e → pos 1 ≤ℤ q.d → (e *ℤ q.z) ≡ (v *ℤ q.d) → (IsUnder q best → ⊥) → IsActiveAgainst (cut.Point ng mult e v) best
bound_active a None ng mult e v q best he hq bound above = absurd (above tt)
bound_active a (Some l) ng mult e v q best he hq bound above =
    let low : (l.z *ℤ q.d) ≤ℤ (q.z *ℤ l.d) = by_lt_z (q.z *ℤ l.d) (l.z *ℤ q.d) (λ lower. absurd (above lower)) (λ h. h) in
    at_most_z e v q.z l.z q.d l.d he hq best.of.fits.positive low (same_le (e *ℤ q.z) (v *ℤ q.d) bound)

pub bound_active_there : (ng : List Choice) (mult : List (ℕ × ℤ)) (e v : ℤ) (q : Point) → (e *ℤ q.z) ≡ (v *ℤ q.d) → IsActiveAgainst (cut.Point ng mult e v) (Some q)
bound_active_there ng mult e v q bound = same_le (e *ℤ q.z) (v *ℤ q.d) bound

pub limit_of : (a : Instance) (best : Option Point) → IsBest a best → IsLimit a best
limit_of a None h = tt
limit_of a (Some q) h = h.of

pub stays : (a : Instance) (best : Option Point) → FallsTo a best best
stays a None = refl
stays a (Some q) = inl refl

-- ---- what the numbers mean

cost_meant : (a : Instance) (q : Point) (p : points.Point a.columns) → IsPointOf a q → Means q p → points.cost_at a p ≡ q.z
cost_meant a q p of means = ap (λ x. dot a.cost x) means.0 ∙ sym of.cost

pub active_of : (a : Instance) (c : Cut) (q : Point) (p : points.Point a.columns) → IsPointOf a q → Means q p → IsActiveAgainst c (Some q) → IsActive a c (Some p)
active_of a (cut.Ray ng mult) q p of means h = tt
active_of a (cut.Point ng mult e v) q p of means h =
    let P : ℤ → ℤ → Type 0 = λ z d. (e *ℤ z) ≤ℤ (v *ℤ d) in
    subst (λ z. P z (pos p.d)) (sym (cost_meant a q p of means)) (subst (λ d. P q.z d) (sym means.1) h)

pub active_of_none : (a : Instance) (c : Cut) → IsActiveAgainst c None → IsActive a c None
active_of_none a (cut.Ray ng mult) h = tt
active_of_none a (cut.Point ng mult e v) h = h
