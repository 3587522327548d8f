-- A bound that is at least a point's value is at least that of each lower point.
use Rattle.std.proofs.Common.{inl, inr, ℕ, ◌<◌, ◌≡◌, refl, sym, ap, ◌∙◌, subst, arith, ℤ, pos, negsuc, ◌*ℤ◌, ◌≤ℤ◌, ◌<ℤ◌, Bool, true, false, Option, Some, None}
use Rattle.std.specs.Prelude.{◌⊎◌, int_lt, if◌then◌else◌}
use Rattle.std.proofs.lemmas.Int.{ints}
use Rattle.lp_base.proofs.Ring.{mul_assoc, mul_swap, mul_le_left, mul_le_right, le_of_mul_right}
use Rattle.lp_base.specs.Sums.{dot}
use Rattle.lpcc_case.specs.Instance.{Instance}
use Rattle.lpcc_case.specs.Points as points
use Rattle.lpcc_case.specs.NarrowPoints.{IsPointOf, Means}
use Rattle.lpcc_case.specs.declared.point.Point.{Point}
use Rattle.cuts.specs.declared.cut.Cut.{Cut}
use Rattle.cuts.specs.declared.cut.Cut.TheVariants as cut
use Rattle.cuts.specs.Cuts.{Passes, IsActive}
use Rattle.reasons.specs.Reasons.{IsActiveAgainst}
use Rattle.play.specs.Points.{IsBest, IsCandidate, is_below, lowered}

pub lt_from : (x y : ℤ) → int_lt x y ≡ true → x <ℤ y
lt_from x y e = omega (arith, ints, e)

pub le_from : (x y : ℤ) → int_lt x y ≡ false → y ≤ℤ x
le_from x y e = omega (arith, ints, e)

at_most : (e v z w : ℤ) (m n : ℕ) → pos 0 ≤ℤ e → 0 < m → (w *ℤ pos m) ≤ℤ (z *ℤ pos n) → (e *ℤ z) ≤ℤ (v *ℤ pos m) → (e *ℤ w) ≤ℤ (v *ℤ pos n)
at_most e v z w m n he hm low bound =
    let first = mul_le_left e (w *ℤ pos m) (z *ℤ pos n) he low in
    let second = mul_le_right n (e *ℤ z) (v *ℤ pos m) bound in
    le_of_mul_right m (e *ℤ w) (v *ℤ pos n) hm (omega (arith, ints, first, second, mul_assoc e w (pos m), mul_assoc e z (pos n), mul_swap v (pos m) (pos n)))

at_most_z : (e v z w d f : ℤ) → pos 1 ≤ℤ e → pos 1 ≤ℤ d → pos 1 ≤ℤ f → (w *ℤ d) ≤ℤ (z *ℤ f) → (e *ℤ z) ≤ℤ (v *ℤ d) → (e *ℤ w) ≤ℤ (v *ℤ f)
at_most_z e v z w (pos m) (pos n) he hd hf low bound = at_most e v z w m n (omega (arith, ints, he)) (omega (arith, ints, hd)) low bound
at_most_z e v z w (pos m) (negsuc n) he hd hf low bound = absurd (omega (arith, ints, hf))
at_most_z e v z w (negsuc m) f he hd hf low bound = absurd (omega (arith, ints, hd))

-- r is not above q
backed_lower : (a : Instance) (c : Cut) (q r : Point) → Passes a c → pos 1 ≤ℤ q.d → pos 1 ≤ℤ r.d → (r.z *ℤ q.d) ≤ℤ (q.z *ℤ r.d) → IsActiveAgainst c (Some q) → IsActiveAgainst c (Some r)
backed_lower a (cut.Ray ng mult) q r h hq hr low bound = tt
backed_lower a (cut.Point ng mult e v) q r h hq hr low bound = at_most_z e v q.z r.z q.d r.d h.sums.0 hq hr low bound

backed_any : (c : Cut) (best : Option Point) → IsActiveAgainst c None → IsActiveAgainst c best
backed_any (cut.Ray ng mult) best h = tt
backed_any (cut.Point ng mult e v) best h = absurd h

kept_cond : (a : Instance) (c : Cut) (r q : Point) (b : Bool) → is_below q r ≡ b → Passes a c → pos 1 ≤ℤ r.d → pos 1 ≤ℤ q.d → IsActiveAgainst c (Some r) ⊎ IsActiveAgainst c (Some q) → IsActiveAgainst c (if b then Some q else Some r)
kept_cond a c r q true e h hr hq (inl old) = let lt = lt_from (q.z *ℤ r.d) (r.z *ℤ q.d) e in backed_lower a c r q h hr hq (omega (arith, ints, lt)) old
kept_cond a c r q true e h hr hq (inr new) = new
kept_cond a c r q false e h hr hq (inl old) = old
kept_cond a c r q false e h hr hq (inr new) = backed_lower a c q r h hq hr (le_from (q.z *ℤ r.d) (r.z *ℤ q.d) e) new

pub backed_lowered : (a : Instance) (c : Cut) (old offer : Option Point) → Passes a c → IsBest a old → IsBest a offer → IsActiveAgainst c old ⊎ IsActiveAgainst c offer → IsActiveAgainst c (lowered old offer)
backed_lowered a c None None h hr hq (inl x) = x
backed_lowered a c None None h hr hq (inr x) = x
backed_lowered a c (Some r) None h hr hq (inl x) = x
backed_lowered a c (Some r) None h hr hq (inr x) = backed_any c (Some r) x
backed_lowered a c None (Some q) h hr hq (inl x) = backed_any c (Some q) x
backed_lowered a c None (Some q) h hr hq (inr x) = x
backed_lowered a c (Some r) (Some q) h hr hq x = kept_cond a c r q (is_below q r) refl h hr.of.fits.positive hq.of.fits.positive x

best_cond : (a : Instance) (r q : Point) (b : Bool) → IsCandidate a r → IsCandidate a q → IsBest a (if b then Some q else Some r)
best_cond a r q true hr hq = hq
best_cond a r q false hr hq = hr

pub best_lowered : (a : Instance) (old offer : Option Point) → IsBest a old → IsBest a offer → IsBest a (lowered old offer)
best_lowered a None None hr hq = hr
best_lowered a (Some r) None hr hq = hr
best_lowered a None (Some q) hr hq = hq
best_lowered a (Some r) (Some q) hr hq = best_cond a r q (is_below q r) hr hq

-- ---- what the numbers mean

cost_meant : (a : Instance) (q : Point) (p : points.Point a.columns) → IsPointOf a q → Means q p → points.cost_at a p ≡ q.z
cost_meant a q p of means = ap (λ x. dot a.cost x) means.0 ∙ sym of.cost

pub active_of : (a : Instance) (c : Cut) (q : Point) (p : points.Point a.columns) → IsPointOf a q → Means q p → IsActiveAgainst c (Some q) → IsActive a c (Some p)
active_of a (cut.Ray ng mult) q p of means h = tt
active_of a (cut.Point ng mult e v) q p of means h =
    let P : ℤ → ℤ → Type 0 = λ z d. (e *ℤ z) ≤ℤ (v *ℤ d) in
    subst (λ z. P z (pos p.d)) (sym (cost_meant a q p of means)) (subst (λ d. P q.z d) (sym means.1) h)

pub active_of_none : (a : Instance) (c : Cut) → IsActiveAgainst c None → IsActive a c None
active_of_none a (cut.Ray ng mult) h = tt
active_of_none a (cut.Point ng mult e v) h = h
