-- Why an accepted verdict is true.
use Rattle.std.proofs.Common.{ℕ, ◌≡◌, refl, sym, ap, ◌∙◌, subst, ℤ, pos, ◌+ℤ◌, ◌*ℤ◌, List, inl, inr, Option, Some, None, length, map}
use Rattle.std.specs.Prelude.{unsigned_abs}
use Rattle.std.specs.List.{range_with_len}
use Rattle.std.proofs.lemmas.List.FromFn.{length-map-range_with_len}
use Rattle.lp_base.specs.Sums.{dot}
use Rattle.lp_nums.specs.Fractions.{Fraction, SameValue}
use Rattle.nogoods.specs.declared.choice.Choice.{Choice}
use Rattle.sense.specs.Senses.{signed}
use Rattle.lpcc_case.specs.declared.verdict.Verdict.{Verdict}
use Rattle.lpcc_case.specs.declared.verdict.Verdict.TheVariants as verdict
use Rattle.lpcc_case.specs.Instance.{Instance, chosen}
use Rattle.lpcc_case.specs.Points.{Point, IsComplementary, IsTightAt, IsFeasible, IsLower, Recedes, Relates, cost_at, left_side, coefficient}
use Rattle.lpcc_case.specs.Verdicts.{IsTrueOf, IsInfeasible, IsUnbounded, HasValue}
use Rattle.lpcc_case.specs.Values.{IsValue}
use Rattle.cert_text.specs.declared.cert.Cert.{Cert}
use Rattle.cert_text.specs.declared.cert.Cert.TheVariants.{Optimal, Infeasible, Unbounded}
use Rattle.cert_text.specs.declared.cert.CertPoint.{CertPoint}
use Rattle.cert_text.specs.declared.cert.CertLine.{CertLine}
use Rattle.cert_check.specs.declared.accept.NoWhy.{NoWhy}
use Rattle.cert_check.specs.declared.accept.NoWhy.TheVariants.{NotComplementary, ValueFails, RayFails}
use Rattle.cert_check.specs.Acceptance.{Accepts, HasCost, IsWholePiece, NoGoodsFail, RayPasses, numbers_of}
use Rattle.cert_check.specs.Barring.{claimed_by}
use Rattle.cert_check.proofs.Stable.{Holds, same_stable, lt_stable, relates_stable, all_stable, complementary_stable, tight_stable, numbers_stable}
use Rattle.cert_check.proofs.PointLines.{PointLinePasses, point_given, abs_of_positive}
use Rattle.cert_check.proofs.Barred.{nothing_improves}
use Rattle.cert_check.proofs.Following.{falls_below}

abbrev Passes : Instance → Option (ℤ × ℤ) → List CertLine → ℕ → Type 0
Passes a value lines first = (n : ℕ) (why : NoWhy) → NoGoodsFail a value lines first n why → ⊥

-- ---- the optimum

value_moves : (a : Instance) (p : Point a.columns) (z d : ℤ) (value : Fraction) (denominator : ℕ) → cost_at a p ≡ z → pos p.d ≡ d → pos denominator ≡ value.den → SameValue value (record { num = signed a.sense (z +ℤ (a.offset *ℤ d)); den = a.scale *ℤ d }) → HasValue a p value.num denominator
value_moves a p z d value denominator cost same den is = rw (cost, same, den) (sym is)

pub optimal_true : (a : Instance) (point : CertPoint) (z : ℤ) (lines : List CertLine) (value : Fraction) → PointLinePasses a (IsComplementary a) point → Holds (HasCost a point z) → Passes a (Some (z, point.d)) lines 5 → IsValue a z point.d value → IsTrueOf a (verdict.Optimal value)
optimal_true a point z lines value point_passes cost_holds passes is =
    let found = point_given a (IsComplementary a) point point_passes in
    let p = found.0 in
    let feasible : IsFeasible a p = record { met = found.1.met; complementary = complementary_stable a p found.2 } in
    let cost : cost_at a p ≡ z = ap (λ x. dot a.cost x) found.1.numbers ∙ sym (same_stable z (dot a.cost (numbers_of a.columns point.terms)) cost_holds) in
    let den = abs_of_positive value.den is.lowest.positive in
    let V : ℤ → ℤ → Type 0 = λ y d. Passes a (Some (y, d)) lines 5 in
    let lines_pass : Passes a (claimed_by a (Some p)) lines 5 = subst (λ y. V y (pos p.d)) (sym cost) (subst (λ d. V z d) (sym found.1.denominator) passes) in
    let lowest : (q : Point a.columns) → IsFeasible a q → IsLower a q p → ⊥ = λ q feasible_q lower. nothing_improves a (Some p) lines 5 lines_pass q feasible_q lower in
    (unsigned_abs value.den, den.0, (p, den.1, feasible, value_moves a p z point.d value (unsigned_abs value.den) cost found.1.denominator den.0 is.same, lowest))

-- ---- infeasible

pub infeasible_true : (a : Instance) (lines : List CertLine) → Passes a None lines 3 → IsInfeasible a
infeasible_true a lines passes p feasible = nothing_improves a None lines 3 passes p feasible tt

-- ---- unbounded

recedes_stable : (a : Instance) (piece : List Choice) (r : List ℤ) → length r ≡ a.columns → Holds (Recedes a piece r) → Recedes a piece r
recedes_stable a piece r size holds = record {
  size = size;
  keeps = all_stable (λ c. Relates c.kind (left_side c.terms r) (pos 0)) a.constraints (λ c. relates_stable c.kind (left_side c.terms r) (pos 0)) (λ never. holds (λ h. never h.keeps));
  stays = all_stable (λ c. left_side (chosen a c).terms r ≡ pos 0) piece (λ c. same_stable (left_side (chosen a c).terms r) (pos 0)) (λ never. holds (λ h. never h.stays));
  falls = lt_stable (dot a.cost r) (pos 0) (λ never. holds (λ h. never h.falls));
}

pub unbounded_true : (a : Instance) (piece : List Choice) (point : CertPoint) (ray : List (ℕ × ℤ)) → Holds (IsWholePiece a piece) → PointLinePasses a (λ p. IsTightAt a p piece) point → Holds (RayPasses a piece ray) → IsUnbounded a
unbounded_true a piece point ray whole_holds point_passes ray_holds bound =
    let found = point_given a (λ p. IsTightAt a p piece) point point_passes in
    let r = numbers_of a.columns ray in
    let whole : IsWholePiece a piece = numbers_stable (map (λ c. c.pair) piece) (range_with_len 0 (length a.pairs)) whole_holds in
    let recedes = recedes_stable a piece r (length-map-range_with_len (coefficient ray) 0 a.columns) (λ never. ray_holds (λ h. never h.1)) in
    falls_below a piece found.0 r bound whole found.1.met (tight_stable a found.0 piece found.2) recedes

pub accepted_true : (a : Instance) (cert : Cert) (v : Verdict) → Accepts a cert v → IsTrueOf a v
accepted_true a (Optimal point z lines) (verdict.Optimal value) h =
    optimal_true a point z lines value (λ why fails. h.passes 3 why (inl (refl, fails))) (λ never. h.passes 4 ValueFails (inr (inl (refl, refl, never))))
    (λ n why fails. h.passes n why (inr (inr fails))) h.claims
accepted_true a (Optimal point z lines) verdict.Infeasible h = absurd h.claims
accepted_true a (Optimal point z lines) verdict.Unbounded h = absurd h.claims
accepted_true a (Infeasible lines) (verdict.Optimal value) h = absurd h.claims
accepted_true a (Infeasible lines) verdict.Infeasible h = infeasible_true a lines h.passes
accepted_true a (Infeasible lines) verdict.Unbounded h = absurd h.claims
accepted_true a (Unbounded piece point ray) (verdict.Optimal value) h = absurd h.claims
accepted_true a (Unbounded piece point ray) verdict.Infeasible h = absurd h.claims
accepted_true a (Unbounded piece point ray) verdict.Unbounded h =
    unbounded_true a piece point ray (λ never. h.passes 3 NotComplementary (inl (refl, refl, never)))
    (λ why fails. h.passes 4 why (inr (inl (refl, fails)))) (λ never. h.passes 5 RayFails (inr (inr (refl, refl, never))))
