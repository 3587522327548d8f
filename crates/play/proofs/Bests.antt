-- Which points may be the best one, and how it falls.
use Rattle.std.proofs.Common.{inl, inr, ◌≡◌, sym, ◌∙◌, subst, arith, Bool, true, false, ℤ, pos, negsuc, ◌*ℤ◌, ◌≤ℤ◌, ◌<ℤ◌, Option, Some, None}
use Rattle.std.specs.Prelude.{◌↔◌, IsTrue, IfSome}
use Rattle.std.proofs.lemmas.Bool.{false≢true}
use Rattle.std.proofs.lemmas.Int.{ints}
use Rattle.lpcc_case.specs.Instance.{Instance}
use Rattle.lpcc_case.specs.Points as points
use Rattle.lpcc_case.specs.Points.{IsComplementary, MeetsAll}
use Rattle.lpcc_case.specs.NarrowPoints.{IsBelow, IsPointOf, Means}
use Rattle.lpcc_case.specs.declared.point.Point.{Point}
use Rattle.lpcc_case.proofs.Meanings.{means_one}
use Rattle.lpcc_case.proofs.Order.{less-trans}
use Rattle.play.specs.Points.{IsBest, IsCandidate, lowered}
use Rattle.play.specs.Machines.{FallsTo, IsUnderOld}
use Rattle.play.proofs.MachineLaws.{lowered_falls}

-- ---- the tests of a point

-- not the numbers of a point of the instance
pub not_of : (a : Instance) (q : Point) (of : Bool) → (IsTrue of ↔ IsPointOf a q) → (of ≡ true → ⊥) → IsTrue false ↔ IsCandidate a q
not_of a q of exact not = ((λ e. absurd (false≢true e)), (λ is. absurd (not (exact.1 is.of))))

-- some constraint is not met
pub not_met : (a : Instance) (q : Point) (met : Bool) → ((p : points.Point a.columns) → Means q p → IsTrue met ↔ MeetsAll a p) → (met ≡ true → ⊥) → IsTrue false ↔ IsCandidate a q
not_met a q met exact not = (
  (λ e. absurd (false≢true e)),
  (λ is. let p = means_one a q is.of.fits in absurd (not ((exact p.0 p.1).1 (is.feasible p.0 p.1).met))),
)

-- all constraints are met, and it is asked for the pairs
pub if_tight : (a : Instance) (q : Point) (met tight : Bool) → IsPointOf a q → ((p : points.Point a.columns) → Means q p → IsTrue met ↔ MeetsAll a p) → met ≡ true → ((p : points.Point a.columns) → Means q p → IsTrue tight ↔ IsComplementary a p) → IsTrue tight ↔ IsCandidate a q
if_tight a q met tight of exact is pairs = (
  (λ e. record { of = of; feasible = λ p means. record { met = (exact p means).0 is; complementary = (pairs p means).0 e } }),
  (λ can. let p = means_one a q can.of.fits in (pairs p.0 p.1).1 (can.feasible p.0 p.1).complementary),
)

-- ---- the best point

-- it has a denominator of at least 1
pub best_positive : (a : Instance) (best : Option Point) → IsBest a best → IfSome best (λ q. pos 1 ≤ℤ q.d)
best_positive a None h = tt
best_positive a (Some q) h = h.of.fits.positive

below_trans : (u v w k l m : ℤ) → pos 1 ≤ℤ k → pos 1 ≤ℤ l → pos 1 ≤ℤ m → (u *ℤ l) <ℤ (v *ℤ k) → (v *ℤ m) <ℤ (w *ℤ l) → (u *ℤ m) <ℤ (w *ℤ k)
below_trans u v w (pos k) (pos l) (pos m) hk hl hm low high = less-trans u v w k l m (omega (arith, ints, hk)) (omega (arith, ints, hm)) low high
below_trans u v w (pos k) (pos l) (negsuc m) hk hl hm low high = absurd (omega (arith, ints, hm))
below_trans u v w (pos k) (negsuc l) m hk hl hm low high = absurd (omega (arith, ints, hl))
below_trans u v w (negsuc k) l m hk hl hm low high = absurd (omega (arith, ints, hk))

under_still : (a : Instance) (old : Option Point) (q r : Point) → IsBest a old → IsCandidate a q → IsCandidate a r → IsUnderOld old q → IsBelow r q → IsUnderOld old r
under_still a None q r ho hq hr under below = tt
under_still a (Some o) q r ho hq hr under below = below_trans r.z q.z o.z r.d q.d o.d hr.of.fits.positive hq.of.fits.positive ho.of.fits.positive below under

-- what falls twice falls
pub falls_on : (a : Instance) (old mid new : Option Point) → IsBest a old → IsBest a mid → IsBest a new → FallsTo old mid → FallsTo mid new → FallsTo old new
falls_on a old mid new ho hm hn first (inl same) = subst (FallsTo old) (sym same) first
falls_on a old mid new ho hm hn (inl same) (inr lower) = subst (λ (b : Option Point). FallsTo b new) same (inr lower)
falls_on a old mid new ho hm hn (inr first) (inr lower) =
    let q = subst (IsBest a) first.1 hm in
    let r = subst (IsBest a) lower.1 hn in
    inr (lower.0, lower.1, under_still a old first.0 lower.0 ho q r first.2 (subst (λ (b : Option Point). IsUnderOld b lower.0) first.1 lower.2))

pub falls_none : (old new : Option Point) → new ≡ old → FallsTo old new
falls_none old new same = inl same

pub falls_by : (old new offer : Option Point) → new ≡ lowered old offer → FallsTo old new
falls_by old new offer is = subst (FallsTo old) (sym is) (lowered_falls old offer)

pub falls_then : (old mid new offer : Option Point) → mid ≡ lowered old offer → new ≡ mid → FallsTo old new
falls_then old mid new offer is same = falls_by old new offer (same ∙ is)

pub falls_after : (old mid new : Option Point) → mid ≡ old → FallsTo mid new → FallsTo old new
falls_after old mid new same falls = subst (λ (b : Option Point). FallsTo b new) same falls

pub ruleset falls = (falls_none, falls_by, falls_then, falls_after)
