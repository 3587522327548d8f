-- Why an answer to no tight choice is true of the relaxation.
use Rattle.std.proofs.Common.{ℕ, ◌^◌, ◌<◌, ◌≤◌, ◌≡◌, ◌⊎◌, ◌∙◌, refl, sym, ap, subst, arith, ℤ, pos, negsuc, ◌*ℤ◌, ◌≤ℤ◌, List, [], take, Option, Some}
use Rattle.std.specs.Prelude.{unsigned_abs}
use Rattle.std.proofs.lemmas.Int.{ints}
use Rattle.std.proofs.lemmas.List.{take_all}
use Rattle.std.proofs.lemmas.List.Elements.{All-nil}
use Rattle.lp_base.specs.Sums.{dot}
use Rattle.lp_nums.specs.Fractions.{Fraction, SameValue}
use Rattle.nogoods.specs.declared.choice.Choice.{Choice}
use Rattle.lpcc_case.specs.Cases.{IsCase}
use Rattle.lpcc_case.specs.Instance.{Instance, chosen, constraint_at}
use Rattle.lpcc_case.specs.NarrowPoints.{IsPointOf, Means}
use Rattle.lpcc_case.specs.Pieces.{Improves}
use Rattle.lpcc_case.specs.Points.{IsComplementary, IsFeasible, IsLower, IsTight, IsTightAt, MeetsAll, Recedes, cost_at, left_side}
use Rattle.lpcc_case.specs.Points as points
use Rattle.lpcc_case.specs.Values.{IsValue, value_at}
use Rattle.lpcc_case.specs.Verdicts.{HasValue, IsInfeasible, IsTrueOf, IsUnbounded}
use Rattle.lpcc_case.specs.declared.point.Point.{Point}
use Rattle.lpcc_case.specs.declared.point.Ray.{Ray}
use Rattle.lpcc_case.specs.declared.verdict.Verdict.TheVariants.{Optimal}
use Rattle.lpcc_case.proofs.Products.{cost_small}
use Rattle.deck_case.specs.DeckVerdicts.{relaxed}
use Rattle.cuts.specs.Cuts.{IsActive, IsTrueCut, Passes, no_good_of}
use Rattle.cuts.specs.declared.cut.Cut.{Cut}
use Rattle.cuts.specs.declared.cut.Cut.TheVariants as cut_of
use Rattle.cert_check.proofs.Following.{falls_below}
use Rattle.walks.specs.Ends.{IsPointAt, IsRayAt}
use Rattle.lex_simplex.specs.Answers.{IsPointCutOf, IsRayCutOf}

-- what the crates below promise of cuts and points
pub record Laws : Type 0 where
  pub truth : (a : Instance) (cut : Cut) → Passes a cut → IsTrueCut a cut
  pub active : (a : Instance) (cut : Cut) (best : Option (points.Point a.columns)) (p : points.Point a.columns) → IsTrueCut a cut → IsActive a cut best → MeetsAll a p → IsTightAt a p (no_good_of cut) → Improves a p best → ⊥
  pub value : (a : Instance) (q : Point) (p : points.Point a.columns) (numerator : ℤ) (denominator : ℕ) → IsPointOf a q → Means q p → SameValue (record { num = numerator; den = pos denominator }) (value_at a q.z q.d) → HasValue a p numerator denominator

-- ---- no choices, and no pairs

tight_at_none : (a : Instance) (p : points.Point a.columns) → IsTightAt a p []
tight_at_none a p = All-nil (λ (c : Choice). IsTight p (chosen a c))

feasible_without_pairs : (a : Instance) (p : points.Point a.columns) → MeetsAll a p → IsFeasible (relaxed a) p
feasible_without_pairs a p met = record { met = met; complementary = All-nil (λ (pair : ℕ × ℕ). IsTight p (constraint_at (relaxed a) pair.0) ⊎ IsTight p (constraint_at (relaxed a) pair.1)) }

-- ---- infeasible

pub infeasible : Laws → (a : Instance) (cut : Cut) → IsRayCutOf a [] cut → IsInfeasible (relaxed a)
infeasible l a cut h p feasible =
    let is_true : IsTrueCut a (cut_of.Ray [] h.mult) = subst (λ (c : Cut). IsTrueCut a c) h.cut_is (l.truth a cut h.passes) in
    is_true p feasible.met (tight_at_none a p)

-- ---- optimal

cost_is : (a : Instance) (q : Point) (p : points.Point a.columns) → IsPointOf a q → Means q p → cost_at a p ≡ q.z
cost_is a q p numbers means = ap (λ x. dot a.cost x) means.0 ∙ sym numbers.cost

le_of_same : (x y : ℤ) → x ≡ y → x ≤ℤ y
le_of_same x y e = omega (arith, ints)

pub optimal : Laws → (a : Instance) (q : Point) (cut : Cut) (value : Fraction) → IsPointAt a [] q → IsPointCutOf a [] q cut → IsValue a q.z q.d value → IsTrueOf (relaxed a) (Optimal value)
optimal l a q cut value at h is =
    let p = at.point in
    let den : pos (unsigned_abs value.den) ≡ value.den = positive_is value.den is.lowest.positive in
    let some : 0 < unsigned_abs value.den = omega (arith, ints, is.lowest.positive) in
    let bound = cut_of.Point [] h.mult h.e h.v in
    let is_true : IsTrueCut a bound = subst (λ (c : Cut). IsTrueCut a c) h.cut_is (l.truth a cut h.passes) in
    let here : (h.e *ℤ cost_at a p) ≡ (h.v *ℤ pos p.d) = ap (λ z. h.e *ℤ z) (cost_is a q p at.numbers at.means) ∙ h.bound ∙ ap (λ d. h.v *ℤ d) (sym at.means.1) in
    let active : IsActive a bound (Some p) = le_of_same (h.e *ℤ cost_at a p) (h.v *ℤ pos p.d) here in
    let has = l.value a q p value.num (unsigned_abs value.den) at.numbers at.means (subst (λ d. SameValue (record { num = value.num; den = d }) (value_at a q.z q.d)) (sym den) is.same) in
    let lowest : (r : points.Point a.columns) → IsFeasible (relaxed a) r → IsLower a r p → ⊥ = λ r feasible lower. l.active a bound (Some p) r is_true active feasible.met (tight_at_none a r) lower in
    (unsigned_abs value.den, den, (p, some, feasible_without_pairs a p at.met, has, lowest))
  where
    positive_is : (z : ℤ) → pos 1 ≤ℤ z → pos (unsigned_abs z) ≡ z
    positive_is (pos n) h = refl
    positive_is (negsuc n) h = absurd (omega (arith, ints))

-- ---- unbounded

recedes_without_pairs : (a : Instance) (r : List ℤ) → Recedes a [] r → Recedes (relaxed a) [] r
recedes_without_pairs a r h = record {
  size = h.size;
  keeps = h.keeps;
  stays = All-nil (λ (c : Choice). left_side (chosen (relaxed a) c).terms r ≡ pos 0);
  falls = h.falls;
}

pub unbounded : (a : Instance) (q : Point) (ray : Ray) → IsPointAt a [] q → IsRayAt a [] ray → IsUnbounded (relaxed a)
unbounded a q ray at h bound = falls_below (relaxed a) [] at.point ray.r bound refl at.met (tight_at_none (relaxed a) at.point) (recedes_without_pairs a ray.r h.recedes)

-- ---- the value of a point has room

pub point_room : (a : Instance) (q : Point) → IsCase a → IsPointOf a q → unsigned_abs q.z ≤ 2 ^ 126
point_room a q kept h =
    let all : take a.columns a.cost ≡ a.cost = take_all a.columns a.cost (omega (arith, kept.cost_length)) in
    let numbers : take a.columns q.x ≡ q.x = take_all a.columns q.x (omega (arith, h.fits.numbers.size)) in
    let small = cost_small a q.x a.columns kept h.fits.numbers in
    let sum : unsigned_abs (dot a.cost q.x) < 2 ^ 126 = subst (λ x. unsigned_abs (dot a.cost x) < 2 ^ 126) numbers (subst (λ c. unsigned_abs (dot c (take a.columns q.x)) < 2 ^ 126) all small) in
    omega (arith, sum, ap unsigned_abs h.cost)
