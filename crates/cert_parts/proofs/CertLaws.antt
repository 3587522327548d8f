-- Why certificates are accepted.
use Rattle.std.proofs.Common.{inl, inr, ℕ, zero, suc, ◌+◌, ◌<◌, ◌≤◌, ◌≡◌, refl, sym, ap, ◌∙◌, subst, arith, ℤ, pos, ◌+ℤ◌, ◌*ℤ◌, ◌≤ℤ◌, Bool, true, false, nat_eq, List, [], ◌∷◌, length, get_or, map, take, Option, Some, None}
use Rattle.std.specs.Prelude.{All, unsigned_abs, if◌then◌else◌}
use Rattle.std.proofs.lemmas.Int.{ints}
use Rattle.std.proofs.lemmas.Bool.{eqb-true}
use Rattle.std.proofs.lemmas.List.Elements.{All-cons, All-nil}
use Rattle.std.proofs.lemmas.List.FromFn.{fill_by_all}
use Rattle.std.proofs.Math.IntN.{+ℤ_idl, +ℤ_idr}
use Rattle.lp_base.specs.Sums.{dot}
use Rattle.lp_base.proofs.Ring.{mul_comm}
use Rattle.lp_nums.specs.Fractions.{Fraction}
use Rattle.nogoods.specs.declared.choice.Choice.{Choice}
use Rattle.lpcc_case.specs.Instance.{Instance}
use Rattle.lpcc_case.specs.Points as points
use Rattle.lpcc_case.specs.Points.{IsComplementary, IsFeasible, IsTightAt, MeetsAll, Recedes, coefficient}
use Rattle.lpcc_case.specs.NarrowPoints.{IsPointOf, Means}
use Rattle.lpcc_case.specs.Values.{IsValue}
use Rattle.lpcc_case.specs.declared.point.Point.{Point}
use Rattle.lpcc_case.specs.declared.point.Ray.{Ray}
use Rattle.lpcc_case.specs.declared.verdict.Verdict.TheVariants as verdict
use Rattle.lpcc_case.proofs.Meanings.{means_one}
use Rattle.lpcc_case.proofs.Shares.{share, share_at, share_after, share_before}
use Rattle.cuts.specs.declared.cut.Cut.TheVariants as cut
use Rattle.cuts.specs.Cuts.{Passes, right_sum}
use Rattle.reasons.specs.Reasons.{Has, IsPointIn, IsRayFor}
use Rattle.cert_text.specs.declared.cert.Cert.TheVariants as cert
use Rattle.cert_text.specs.declared.cert.CertPoint.{CertPoint}
use Rattle.cert_text.specs.declared.cert.CertLine.{CertLine}
use Rattle.cert_text.specs.declared.cert.CertLine.TheVariants as line
use Rattle.cert_text.specs.Certs.{no_good_of}
use Rattle.cert_check.specs.declared.accept.NoWhy.{NoWhy}
use Rattle.cert_check.specs.Acceptance.{Accepts, LineFails, NoGoodFails, NoGoodsFail, PointCutFails, PointLineFails, GivesMet, IsWholePiece, NamesColumns, numbers_of}
use Rattle.cert_parts.specs.Lines.{AreBacked, IsBacked, IsSoundCut}
use Rattle.cert_parts.specs.PointTerms.{terms_from, with_term, cert_point}

-- ---- numbers and their terms

zero_abs : (z : ℤ) → nat_eq (unsigned_abs z) 0 ≡ true → z ≡ pos 0
zero_abs z e = omega (arith, ints, eqb-true (unsigned_abs z) 0 e)

share_zero : (i m : ℕ) (b : Bool) → (if b then pos 0 else pos 0) ≡ pos 0
share_zero i m true = refl
share_zero i m false = refl

coefficient_cond : (i m : ℕ) (z : ℤ) (terms : List (ℕ × ℤ)) (b : Bool) → nat_eq (unsigned_abs z) 0 ≡ b → coefficient (if b then terms else (i, z) ∷ terms) m ≡ (share (i, z) m +ℤ coefficient terms m)
coefficient_cond i m z terms true e =
    let none : share (i, z) m ≡ pos 0 = ap (λ y. share (i, y) m) (zero_abs z e) ∙ share_zero i m (nat_eq i m) in
    sym (ap (λ y. y +ℤ coefficient terms m) none ∙ +ℤ_idl (coefficient terms m))
coefficient_cond i m z terms false e = refl

coefficient_with : (i m : ℕ) (z : ℤ) (terms : List (ℕ × ℤ)) → coefficient (with_term i z terms) m ≡ (share (i, z) m +ℤ coefficient terms m)
coefficient_with i m z terms = coefficient_cond i m z terms (nat_eq (unsigned_abs z) 0) refl

coefficient_early : (zs : List ℤ) (i m : ℕ) → m < i → coefficient (terms_from i zs) m ≡ pos 0
coefficient_early [] i m below = refl
coefficient_early (z ∷ zs) i m below =
    coefficient_with i m z (terms_from (i + 1) zs) ∙ ap (λ y. y +ℤ coefficient (terms_from (i + 1) zs) m) (share_after i m z below)
    ∙ +ℤ_idl (coefficient (terms_from (i + 1) zs) m) ∙ coefficient_early zs (i + 1) m (omega arith)

coefficient_at : (zs : List ℤ) (i j : ℕ) → coefficient (terms_from i zs) (i + j) ≡ get_or zs j (pos 0)
coefficient_at [] i j = refl
coefficient_at (z ∷ zs) i zero =
    let same : i + 0 ≡ i = omega arith in
    ap (λ m. coefficient (terms_from i (z ∷ zs)) m) same ∙ coefficient_with i i z (terms_from (i + 1) zs)
    ∙ ap (λ y. y +ℤ coefficient (terms_from (i + 1) zs) i) (share_at i z) ∙ ap (λ y. z +ℤ y) (coefficient_early zs (i + 1) i (omega arith)) ∙ +ℤ_idr z
coefficient_at (z ∷ zs) i (suc k) =
    let same : i + suc k ≡ (i + 1) + k = omega arith in
    coefficient_with i (i + suc k) z (terms_from (i + 1) zs)
    ∙ ap (λ y. y +ℤ coefficient (terms_from (i + 1) zs) (i + suc k)) (share_before i (i + suc k) z (omega arith))
    ∙ +ℤ_idl (coefficient (terms_from (i + 1) zs) (i + suc k))
    ∙ ap (λ m. coefficient (terms_from (i + 1) zs) m) same ∙ coefficient_at zs (i + 1) k

pub numbers_again : (columns : ℕ) (x : List ℤ) → length x ≡ columns → x ≡ numbers_of columns (terms_from 0 x)
numbers_again columns x size =
    fill_by_all (coefficient (terms_from 0 x)) x columns (pos 0) size
    (λ j below. let same : 0 + j ≡ j = omega arith in sym (coefficient_at x 0 j) ∙ ap (λ m. coefficient (terms_from 0 x) m) same)

named_cond : (n i : ℕ) (z : ℤ) (terms : List (ℕ × ℤ)) (b : Bool) → i < n → All (λ t. t.0 < n) terms → All (λ (t : ℕ × ℤ). t.0 < n) (if b then terms else (i, z) ∷ terms)
named_cond n i z terms true below rest = rest
named_cond n i z terms false below rest = All-cons (λ (t : ℕ × ℤ). t.0 < n) (i, z) terms below rest

terms_named : (n i : ℕ) (zs : List ℤ) → i + length zs ≤ n → All (λ (t : ℕ × ℤ). t.0 < n) (terms_from i zs)
terms_named n i [] few = All-nil (λ (t : ℕ × ℤ). t.0 < n)
terms_named n i (z ∷ zs) few = named_cond n i z (terms_from (i + 1) zs) (nat_eq (unsigned_abs z) 0) (omega (arith, few)) (terms_named n (i + 1) zs (omega (arith, few)))

columns_named : (a : Instance) (x : List ℤ) → length x ≡ a.columns → NamesColumns a (terms_from 0 x)
columns_named a x size = terms_named a.columns 0 x (omega (arith, size))

-- ---- the point

point_gives : (a : Instance) (q : Point) (p : points.Point a.columns) → IsPointOf a q → Means q p → MeetsAll a p → GivesMet a (cert_point q) p
point_gives a q p of means met = record {
  columns = columns_named a q.x of.fits.numbers.size;
  numbers = means.0 ∙ numbers_again a.columns q.x of.fits.numbers.size;
  denominator = means.1;
  met = met;
}

given_means : (a : Instance) (q : Point) (p : points.Point a.columns) → IsPointOf a q → GivesMet a (cert_point q) p → Means q p
given_means a q p of gives = (gives.numbers ∙ sym (numbers_again a.columns q.x of.fits.numbers.size), gives.denominator)

point_passes : (a : Instance) (q : Point) (Asked : points.Point a.columns → Type 0) (why : NoWhy) → IsPointOf a q → ((p : points.Point a.columns) → Means q p → MeetsAll a p × Asked p) → PointLineFails a Asked (cert_point q) why → ⊥
point_passes a q Asked why of has (inl fails) =
    let meant = means_one a q of.fits in
    fails.1 meant.0 (point_gives a q meant.0 of meant.1 (has meant.0 meant.1).0)
point_passes a q Asked why of has (inr fails) = fails.3 (has fails.1 (given_means a q fails.1 of fails.2)).1

-- ---- the lines

abbrev claim_of : Option Point → Option (ℤ × ℤ)
claim_of None = None
claim_of (Some q) = Some (q.z, q.d)

point_cut_passes : (a : Instance) (best : Option Point) (ng : List Choice) (e v : ℤ) (mult : List (ℕ × ℤ)) (why : NoWhy) → IsSoundCut a best (cut.Point ng mult e v) → PointCutFails a (claim_of best) ng e mult why → ⊥
point_cut_passes a None ng e v mult why sound fails = sound.1
point_cut_passes a (Some q) ng e v mult why sound fails =
    let P : ℤ → Type 0 = λ w. Passes a (cut.Point ng mult e w) in
    let passes : P (right_sum a mult) = subst P (sym sound.0.bound) sound.0 in
    let L : ℤ → ℤ → Type 0 = λ x w. x ≤ℤ (w *ℤ q.d) in
    let bound : L (q.z *ℤ e) (right_sum a mult) = subst (λ x. L x (right_sum a mult)) (mul_comm e q.z) (subst (λ w. L (e *ℤ q.z) w) (sym sound.0.bound) sound.1) in
    elim fails [
      | inl x ↦ x.1 passes
      | inr x ↦ x.2 bound
    ]

line_passes : (a : Instance) (best : Option Point) (earlier : List (List Choice)) (l : CertLine) (why : NoWhy) → IsBacked a best earlier l → NoGoodFails a (claim_of best) earlier l why → ⊥
line_passes a best earlier (line.Ray ng mult) why backed fails = fails.1 backed.0
line_passes a best earlier (line.Point ng e mult) why backed fails = point_cut_passes a best ng e backed.0 mult why backed.1 fails
line_passes a best earlier (line.Derived ng hints) why backed fails = fails.1 backed

lines_pass : (a : Instance) (best : Option Point) (lines : List CertLine) (first n : ℕ) (why : NoWhy) → AreBacked a best lines → NoGoodsFail a (claim_of best) lines first n why → ⊥
lines_pass a best lines first n why backed (inl f) = line_passes a best (map no_good_of (take f.0 lines)) f.1 why (backed.each f.0 f.1 f.2) f.4
lines_pass a best lines first n why backed (inr f) = f.2 backed.ends

-- ---- the certificate

optimal_passes : (a : Instance) (q : Point) (lines : List CertLine) (n : ℕ) (why : NoWhy) → IsPointOf a q → Has a q (IsFeasible a) → AreBacked a (Some q) lines → LineFails a (cert.Optimal (cert_point q) q.z lines) n why → ⊥
optimal_passes a q lines n why of feasible backed fails = elim fails [
  | inl f ↦ point_passes a q (IsComplementary a) why of (λ p means. ((feasible p means).met, (feasible p means).complementary)) f.1
  | inr (inl f) ↦ f.2 (of.cost ∙ ap (λ x. dot a.cost x) (numbers_again a.columns q.x of.fits.numbers.size))
  | inr (inr f) ↦ lines_pass a (Some q) lines 5 n why backed f
]

pub optimal_accepted : (a : Instance) (q : Point) (lines : List CertLine) (value : Fraction) → IsPointOf a q → Has a q (IsFeasible a) → AreBacked a (Some q) lines → IsValue a q.z q.d value → Accepts a (cert.Optimal (cert_point q) q.z lines) (verdict.Optimal value)
optimal_accepted a q lines value of feasible backed says = record {
  passes = λ n why fails. optimal_passes a q lines n why of feasible backed fails;
  claims = says;
}

pub infeasible_accepted : (a : Instance) (lines : List CertLine) → AreBacked a None lines → Accepts a (cert.Infeasible lines) verdict.Infeasible
infeasible_accepted a lines backed = record { passes = λ n why fails. lines_pass a None lines 3 n why backed fails; claims = tt }

-- ---- points and rays

recedes_again : (a : Instance) (piece : List Choice) (r : List ℤ) → length r ≡ a.columns → Recedes a piece r → Recedes a piece (numbers_of a.columns (terms_from 0 r))
recedes_again a piece r size h = subst (Recedes a piece) (numbers_again a.columns r size) h

unbounded_passes : (a : Instance) (choices : List Choice) (q : Point) (ray : Ray) (n : ℕ) (why : NoWhy) → IsWholePiece a choices → IsPointIn a choices q → IsRayFor a choices ray → LineFails a (cert.Unbounded choices (cert_point q) (terms_from 0 ray.r)) n why → ⊥
unbounded_passes a choices q ray n why whole at away fails = elim fails [
  | inl f ↦ f.2 whole
  | inr (inl f) ↦ point_passes a q (λ p. IsTightAt a p choices) why at.numbers (λ p means. let is = at.inside p means in (is.met, is.tight_there)) f.1
  | inr (inr f) ↦ f.2 (columns_named a ray.r away.numbers.size, recedes_again a choices ray.r away.numbers.size away.recedes)
]

pub unbounded_accepted : (a : Instance) (choices : List Choice) (q : Point) (ray : Ray) → IsWholePiece a choices → IsPointIn a choices q → IsRayFor a choices ray → Accepts a (cert.Unbounded choices (cert_point q) (terms_from 0 ray.r)) verdict.Unbounded
unbounded_accepted a choices q ray whole at away = record { passes = λ n why fails. unbounded_passes a choices q ray n why whole at away fails; claims = tt }
