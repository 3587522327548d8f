-- One line fails first, for one reason, and one verdict is accepted.
use Rattle.std.proofs.Common.{ℕ, ◌<◌, ◌≡◌, refl, sym, ap, ◌∙◌, subst, arith, ℤ, pos, ◌≤ℤ◌, List, inl, inr, Option, Some, None, map, take}
use Rattle.std.specs.Prelude.{slice_get}
use Rattle.std.proofs.lemmas.Bool.{cases_order}
use Rattle.std.proofs.lemmas.Option.{same_Some, slice_get_within}
use Rattle.lp_nums.specs.Fractions.{SameValue}
use Rattle.lp_nums.proofs.FractionLaws.{unique}
use Rattle.nogoods.specs.declared.choice.Choice.{Choice}
use Rattle.lpcc_case.specs.Instance.{Instance}
use Rattle.lpcc_case.specs.Points.{Point}
use Rattle.lpcc_case.specs.declared.verdict.Verdict.{Verdict}
use Rattle.lpcc_case.specs.declared.verdict.Verdict.TheVariants as verdict
use Rattle.lpcc_case.proofs.VerdictLaws.{same-verdict}
use Rattle.cert_text.specs.declared.cert.Cert.{Cert}
use Rattle.cert_text.specs.declared.cert.Cert.TheVariants.{Optimal, Infeasible, Unbounded}
use Rattle.cert_text.specs.declared.cert.CertPoint.{CertPoint}
use Rattle.cert_text.specs.declared.cert.CertLine.{CertLine}
use Rattle.cert_text.specs.declared.cert.CertLine.TheVariants.{Ray, Point as PointCut, Derived}
use Rattle.cert_text.specs.Certs.{no_good_of}
use Rattle.cert_check.specs.declared.accept.NoWhy.{NoWhy}
use Rattle.cert_check.specs.Acceptance.{Accepts, LineFails, NoGoodFails, NoGoodsFail, PointCutFails, PointLineFails, Refuses}
use Rattle.cert_check.proofs.Truth.{accepted_true}

-- ---- one reason for each line

point_line_one : (a : Instance) (Asked : Point a.columns → Type 0) (line : CertPoint) (v w : NoWhy) → PointLineFails a Asked line v → PointLineFails a Asked line w → v ≡ w
point_line_one a Asked line v w (inl x) (inl y) = x.0 ∙ sym y.0
point_line_one a Asked line v w (inl x) (inr y) = absurd (x.1 y.1 y.2)
point_line_one a Asked line v w (inr x) (inl y) = absurd (y.1 x.1 x.2)
point_line_one a Asked line v w (inr x) (inr y) = x.0 ∙ sym y.0

point_cut_one : (a : Instance) (value : Option (ℤ × ℤ)) (ng : List Choice) (e : ℤ) (mult : List (ℕ × ℤ)) (v w : NoWhy) → PointCutFails a value ng e mult v → PointCutFails a value ng e mult w → v ≡ w
point_cut_one a None ng e mult v w x y = x ∙ sym y
point_cut_one a (Some value) ng e mult v w (inl x) (inl y) = x.0 ∙ sym y.0
point_cut_one a (Some value) ng e mult v w (inl x) (inr y) = absurd (x.1 y.1)
point_cut_one a (Some value) ng e mult v w (inr x) (inl y) = absurd (y.1 x.1)
point_cut_one a (Some value) ng e mult v w (inr x) (inr y) = x.0 ∙ sym y.0

pub no_good_one : (a : Instance) (value : Option (ℤ × ℤ)) (earlier : List (List Choice)) (line : CertLine) (v w : NoWhy) → NoGoodFails a value earlier line v → NoGoodFails a value earlier line w → v ≡ w
no_good_one a value earlier (Ray ng mult) v w x y = x.0 ∙ sym y.0
no_good_one a value earlier (PointCut ng e mult) v w x y = point_cut_one a value ng e mult v w x y
no_good_one a value earlier (Derived ng hints) v w x y = x.0 ∙ sym y.0

-- two failures of the line at one place
at_one_place : (a : Instance) (value : Option (ℤ × ℤ)) (lines : List CertLine) (j k : ℕ) (l m : CertLine) (v w : NoWhy) → j ≡ k → slice_get lines j ≡ Some l → slice_get lines k ≡ Some m → NoGoodFails a value (map no_good_of (take j lines)) l v → NoGoodFails a value (map no_good_of (take k lines)) m w → v ≡ w
at_one_place a value lines j k l m v w same here there x y =
    let P : ℕ → Type 0 = λ i. slice_get lines i ≡ Some l in
    let Q : ℕ → Type 0 = λ i. NoGoodFails a value (map no_good_of (take i lines)) l v in
    let R : CertLine → Type 0 = λ line. NoGoodFails a value (map no_good_of (take k lines)) line v in
    let line : l ≡ m = same_Some l m (sym (subst P same here) ∙ there) in
    no_good_one a value (map no_good_of (take k lines)) m v w (subst R line (subst Q same x)) y

no_goods_one : (a : Instance) (value : Option (ℤ × ℤ)) (lines : List CertLine) (first n : ℕ) (v w : NoWhy) → NoGoodsFail a value lines first n v → NoGoodsFail a value lines first n w → v ≡ w
no_goods_one a value lines first n v w (inl x) (inl y) =
    let same : x.0 ≡ y.0 = omega (arith, x.3, y.3) in
    at_one_place a value lines x.0 y.0 x.1 y.1 v w same x.2 y.2 x.4 y.4
no_goods_one a value lines first n v w (inl x) (inr y) = absurd (omega (arith, x.3, y.0, slice_get_within lines x.0 x.1 x.2))
no_goods_one a value lines first n v w (inr x) (inl y) = absurd (omega (arith, y.3, x.0, slice_get_within lines y.0 y.1 y.2))
no_goods_one a value lines first n v w (inr x) (inr y) = x.1 ∙ sym y.1

-- where no-good lines fail
pub from_first : (a : Instance) (value : Option (ℤ × ℤ)) (lines : List CertLine) (first n : ℕ) (v : NoWhy) → NoGoodsFail a value lines first n v → n < first → ⊥
from_first a value lines first n v (inl x) before = omega (arith, x.3, before)
from_first a value lines first n v (inr x) before = omega (arith, x.0, before)

optimal_one : (a : Instance) (point : CertPoint) (z : ℤ) (lines : List CertLine) (n : ℕ) (v w : NoWhy) → LineFails a (Optimal point z lines) n v → LineFails a (Optimal point z lines) n w → v ≡ w
optimal_one a point z lines n v w (inl x) (inl y) = point_line_one a _ point v w x.1 y.1
optimal_one a point z lines n v w (inl x) (inr (inl y)) = absurd (omega (arith, x.0, y.0))
optimal_one a point z lines n v w (inl x) (inr (inr y)) = absurd (from_first a (Some (z, point.d)) lines 5 n w y (omega (arith, x.0)))
optimal_one a point z lines n v w (inr (inl x)) (inl y) = absurd (omega (arith, x.0, y.0))
optimal_one a point z lines n v w (inr (inl x)) (inr (inl y)) = x.1 ∙ sym y.1
optimal_one a point z lines n v w (inr (inl x)) (inr (inr y)) = absurd (from_first a (Some (z, point.d)) lines 5 n w y (omega (arith, x.0)))
optimal_one a point z lines n v w (inr (inr x)) (inl y) = absurd (from_first a (Some (z, point.d)) lines 5 n v x (omega (arith, y.0)))
optimal_one a point z lines n v w (inr (inr x)) (inr (inl y)) = absurd (from_first a (Some (z, point.d)) lines 5 n v x (omega (arith, y.0)))
optimal_one a point z lines n v w (inr (inr x)) (inr (inr y)) = no_goods_one a (Some (z, point.d)) lines 5 n v w x y

unbounded_one : (a : Instance) (piece : List Choice) (point : CertPoint) (ray : List (ℕ × ℤ)) (n : ℕ) (v w : NoWhy) → LineFails a (Unbounded piece point ray) n v → LineFails a (Unbounded piece point ray) n w → v ≡ w
unbounded_one a piece point ray n v w (inl x) (inl y) = x.1 ∙ sym y.1
unbounded_one a piece point ray n v w (inl x) (inr (inl y)) = absurd (omega (arith, x.0, y.0))
unbounded_one a piece point ray n v w (inl x) (inr (inr y)) = absurd (omega (arith, x.0, y.0))
unbounded_one a piece point ray n v w (inr (inl x)) (inl y) = absurd (omega (arith, x.0, y.0))
unbounded_one a piece point ray n v w (inr (inl x)) (inr (inl y)) = point_line_one a _ point v w x.1 y.1
unbounded_one a piece point ray n v w (inr (inl x)) (inr (inr y)) = absurd (omega (arith, x.0, y.0))
unbounded_one a piece point ray n v w (inr (inr x)) (inl y) = absurd (omega (arith, x.0, y.0))
unbounded_one a piece point ray n v w (inr (inr x)) (inr (inl y)) = absurd (omega (arith, x.0, y.0))
unbounded_one a piece point ray n v w (inr (inr x)) (inr (inr y)) = x.1 ∙ sym y.1

pub one_reason : (a : Instance) (cert : Cert) (n : ℕ) (v w : NoWhy) → LineFails a cert n v → LineFails a cert n w → v ≡ w
one_reason a (Optimal point z lines) n v w x y = optimal_one a point z lines n v w x y
one_reason a (Infeasible lines) n v w x y = no_goods_one a None lines 3 n v w x y
one_reason a (Unbounded piece point ray) n v w x y = unbounded_one a piece point ray n v w x y

-- ---- the first line that fails

pub one_refusal : (a : Instance) (cert : Cert) (m n : ℕ) (v w : NoWhy) → Refuses a cert m v → Refuses a cert n w → (m ≡ n) × (v ≡ w)
one_refusal a cert m n v w x y = elim (cases_order m n) [
  | inl same ↦
      let F : ℕ → Type 0 = λ k. LineFails a cert k v in
      (same, one_reason a cert n v w (subst F same x.fails) y.fails)
  | inr (inl below) ↦ absurd (y.first m v below x.fails)
  | inr (inr above) ↦ absurd (x.first n w above y.fails)
]

pub not_both : (a : Instance) (cert : Cert) (verdict : Verdict) (n : ℕ) (why : NoWhy) → Accepts a cert verdict → Refuses a cert n why → ⊥
not_both a cert verdict n why accepts refuses = accepts.passes n why refuses.fails

-- ---- the verdict

pub one_verdict : (a : Instance) (cert : Cert) (v w : Verdict) → pos 1 ≤ℤ a.scale → Accepts a cert v → Accepts a cert w → v ≡ w
one_verdict a (Optimal point z lines) (verdict.Optimal f) (verdict.Optimal g) scale x y =
    let same : SameValue f g = same-verdict a (verdict.Optimal f) (verdict.Optimal g) scale (accepted_true a (Optimal point z lines) (verdict.Optimal f) x) (accepted_true a (Optimal point z lines) (verdict.Optimal g) y) in
    ap (λ h. verdict.Optimal h) (unique f g x.claims.lowest y.claims.lowest same)
one_verdict a (Optimal point z lines) (verdict.Optimal f) verdict.Infeasible scale x y = absurd y.claims
one_verdict a (Optimal point z lines) (verdict.Optimal f) verdict.Unbounded scale x y = absurd y.claims
one_verdict a (Optimal point z lines) verdict.Infeasible w scale x y = absurd x.claims
one_verdict a (Optimal point z lines) verdict.Unbounded w scale x y = absurd x.claims
one_verdict a (Infeasible lines) (verdict.Optimal f) w scale x y = absurd x.claims
one_verdict a (Infeasible lines) verdict.Infeasible (verdict.Optimal g) scale x y = absurd y.claims
one_verdict a (Infeasible lines) verdict.Infeasible verdict.Infeasible scale x y = refl
one_verdict a (Infeasible lines) verdict.Infeasible verdict.Unbounded scale x y = absurd y.claims
one_verdict a (Infeasible lines) verdict.Unbounded w scale x y = absurd x.claims
one_verdict a (Unbounded piece point ray) (verdict.Optimal f) w scale x y = absurd x.claims
one_verdict a (Unbounded piece point ray) verdict.Infeasible w scale x y = absurd x.claims
one_verdict a (Unbounded piece point ray) verdict.Unbounded (verdict.Optimal g) scale x y = absurd y.claims
one_verdict a (Unbounded piece point ray) verdict.Unbounded verdict.Infeasible scale x y = absurd y.claims
one_verdict a (Unbounded piece point ray) verdict.Unbounded verdict.Unbounded scale x y = refl
