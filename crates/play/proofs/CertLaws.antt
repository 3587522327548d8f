-- Why the certificate of a verdict is accepted.
use Rattle.std.proofs.Common.{inl, inr, ℕ, zero, suc, ◌+◌, ◌<◌, ◌≤◌, ◌≡◌, refl, sym, ap, ◌∙◌, subst, arith, ℤ, pos, ◌+ℤ◌, ◌*ℤ◌, ◌≤ℤ◌, Bool, true, false, nat_eq, List, [], ◌∷◌, length, get_or, map, take, Option, Some, None}
use Rattle.std.specs.Prelude.{All, unsigned_abs, if◌then◌else◌}
use Rattle.std.proofs.lemmas.Int.{ints}
use Rattle.std.proofs.lemmas.Bool.{eqb-true}
use Rattle.std.proofs.lemmas.List.Elements.{All-contains, All-cons, All-nil}
use Rattle.std.proofs.lemmas.List.FromFn.{fill_by_all}
use Rattle.std.proofs.Math.IntN.{+ℤ_idl, +ℤ_idr}
use Rattle.lp_base.specs.Sums.{dot}
use Rattle.lp_base.proofs.Ring.{mul_comm}
use Rattle.nogoods.specs.declared.choice.Choice.{Choice}
use Rattle.nogoods.specs.declared.choice.Side.{Side}
use Rattle.lpcc_case.specs.Instance.{Instance}
use Rattle.lpcc_case.specs.Points as points
use Rattle.lpcc_case.specs.Points.{IsFeasible, IsComplementary, IsTightAt, MeetsAll, Recedes, coefficient}
use Rattle.lpcc_case.specs.NarrowPoints.{IsPointOf, Means}
use Rattle.lpcc_case.specs.Values.{IsValue}
use Rattle.lpcc_case.specs.declared.point.Point.{Point}
use Rattle.lpcc_case.specs.declared.verdict.Verdict.{Verdict}
use Rattle.lpcc_case.specs.declared.verdict.Verdict.TheVariants as verdict
use Rattle.lpcc_case.proofs.Meanings.{means_one}
use Rattle.lpcc_case.proofs.Shares.{share, share_at, share_after}
use Rattle.cuts.specs.declared.cut.Cut.TheVariants as cut
use Rattle.cuts.specs.Cuts.{Passes, right_sum}
use Rattle.cert_text.specs.declared.cert.Cert.{Cert}
use Rattle.cert_text.specs.declared.cert.Cert.TheVariants as cert
use Rattle.cert_text.specs.declared.cert.CertPoint.{CertPoint}
use Rattle.cert_text.specs.declared.cert.CertLine.{CertLine}
use Rattle.cert_text.specs.declared.cert.CertLine.TheVariants as line
use Rattle.cert_text.specs.Certs as certs
use Rattle.cert_check.specs.declared.accept.NoWhy.{NoWhy}
use Rattle.cert_check.specs.Acceptance.{Accepts, LineFails, NoGoodFails, NoGoodsFail, PointCutFails, PointLineFails, GivesMet, NamesColumns, numbers_of}
use Rattle.play.specs.declared.event.Direction.{Direction}
use Rattle.play.specs.declared.event.VerdictKind.{VerdictKind}
use Rattle.play.specs.declared.event.VerdictKind.TheVariants as kind
use Rattle.play.specs.Parts.{Part}
use Rattle.play.specs.Points.{IsBest, IsKept, IsDirection, choices_of}
use Rattle.play.specs.Truth.{IsTrueToBest, IsSoundCut, Says}
use Rattle.play.specs.Certificates.{terms_from, with_term, cert_point, IsBackedLine, AreBacked, IsBackedCert}
use Rattle.play.proofs.Verdicts.{whole_piece, tight_in_piece}

-- ---- numbers and their terms

zero_abs : (z : ℤ) → nat_eq (unsigned_abs z) 0 ≡ true → z ≡ pos 0
zero_abs z e = omega (arith, ints, eqb-true (unsigned_abs z) 0 e)

share_zero : (i m : ℕ) (b : Bool) → (if b then pos 0 else pos 0) ≡ pos 0
share_zero i m true = refl
share_zero i m false = refl

coefficient_cond : (i m : ℕ) (z : ℤ) (terms : List (ℕ × ℤ)) (b : Bool) → nat_eq (unsigned_abs z) 0 ≡ b → coefficient (if b then terms else (i, z) ∷ terms) m ≡ (share (i, z) m +ℤ coefficient terms m)
coefficient_cond i m z terms true e =
    let none : share (i, z) m ≡ pos 0 = ap (λ y. share (i, y) m) (zero_abs z e) ∙ share_zero i m (nat_eq i m) in
    sym (ap (λ y. y +ℤ coefficient terms m) none ∙ +ℤ_idl (coefficient terms m))
coefficient_cond i m z terms false e = refl

coefficient_with : (i m : ℕ) (z : ℤ) (terms : List (ℕ × ℤ)) → coefficient (with_term i z terms) m ≡ (share (i, z) m +ℤ coefficient terms m)
coefficient_with i m z terms = coefficient_cond i m z terms (nat_eq (unsigned_abs z) 0) refl

coefficient_early : (zs : List ℤ) (i m : ℕ) → m < i → coefficient (terms_from i zs) m ≡ pos 0
coefficient_early [] i m below = refl
coefficient_early (z ∷ zs) i m below =
    coefficient_with i m z (terms_from (i + 1) zs) ∙ ap (λ y. y +ℤ coefficient (terms_from (i + 1) zs) m) (share_after i m z below)
    ∙ +ℤ_idl (coefficient (terms_from (i + 1) zs) m) ∙ coefficient_early zs (i + 1) m (omega arith)

coefficient_at : (zs : List ℤ) (i j : ℕ) → coefficient (terms_from i zs) (i + j) ≡ get_or zs j (pos 0)
coefficient_at [] i j = refl
coefficient_at (z ∷ zs) i zero =
    let same : i + 0 ≡ i = omega arith in
    ap (λ m. coefficient (terms_from i (z ∷ zs)) m) same ∙ coefficient_with i i z (terms_from (i + 1) zs)
    ∙ ap (λ y. y +ℤ coefficient (terms_from (i + 1) zs) i) (share_at i z) ∙ ap (λ y. z +ℤ y) (coefficient_early zs (i + 1) i (omega arith)) ∙ +ℤ_idr z
coefficient_at (z ∷ zs) i (suc k) =
    let same : i + suc k ≡ (i + 1) + k = omega arith in
    coefficient_with i (i + suc k) z (terms_from (i + 1) zs)
    ∙ ap (λ y. y +ℤ coefficient (terms_from (i + 1) zs) (i + suc k)) (Rattle.lpcc_case.proofs.Shares.share_before i (i + suc k) z (omega arith))
    ∙ +ℤ_idl (coefficient (terms_from (i + 1) zs) (i + suc k))
    ∙ ap (λ m. coefficient (terms_from (i + 1) zs) m) same ∙ coefficient_at zs (i + 1) k

pub numbers_again : (columns : ℕ) (x : List ℤ) → length x ≡ columns → x ≡ numbers_of columns (terms_from 0 x)
numbers_again columns x size =
    fill_by_all (coefficient (terms_from 0 x)) x columns (pos 0) size
    (λ j below. let same : 0 + j ≡ j = omega arith in sym (coefficient_at x 0 j) ∙ ap (λ m. coefficient (terms_from 0 x) m) same)

named_cond : (n i : ℕ) (z : ℤ) (terms : List (ℕ × ℤ)) (b : Bool) → i < n → All (λ t. t.0 < n) terms → All (λ (t : ℕ × ℤ). t.0 < n) (if b then terms else (i, z) ∷ terms)
named_cond n i z terms true below rest = rest
named_cond n i z terms false below rest = All-cons (λ (t : ℕ × ℤ). t.0 < n) (i, z) terms below rest

terms_named : (n i : ℕ) (zs : List ℤ) → i + length zs ≤ n → All (λ (t : ℕ × ℤ). t.0 < n) (terms_from i zs)
terms_named n i [] few = All-nil (λ (t : ℕ × ℤ). t.0 < n)
terms_named n i (z ∷ zs) few = named_cond n i z (terms_from (i + 1) zs) (nat_eq (unsigned_abs z) 0) (omega (arith, few)) (terms_named n (i + 1) zs (omega (arith, few)))

columns_named : (a : Instance) (x : List ℤ) → length x ≡ a.columns → NamesColumns a (terms_from 0 x)
columns_named a x size = terms_named a.columns 0 x (omega (arith, size))

-- ---- the point

point_gives : (a : Instance) (q : Point) (p : points.Point a.columns) → IsPointOf a q → Means q p → MeetsAll a p → GivesMet a (cert_point q) p
point_gives a q p of means met = record {
  columns = columns_named a q.x of.fits.numbers.size;
  numbers = means.0 ∙ numbers_again a.columns q.x of.fits.numbers.size;
  denominator = means.1;
  met = met;
}

given_means : (a : Instance) (q : Point) (p : points.Point a.columns) → IsPointOf a q → GivesMet a (cert_point q) p → Means q p
given_means a q p of gives = (gives.numbers ∙ sym (numbers_again a.columns q.x of.fits.numbers.size), gives.denominator)

point_passes : (a : Instance) (q : Point) (Asked : points.Point a.columns → Type 0) (why : NoWhy) → IsPointOf a q → ((p : points.Point a.columns) → Means q p → MeetsAll a p × Asked p) → PointLineFails a Asked (cert_point q) why → ⊥
point_passes a q Asked why of has (inl fails) =
    let meant = means_one a q of.fits in
    fails.1 meant.0 (point_gives a q meant.0 of meant.1 (has meant.0 meant.1).0)
point_passes a q Asked why of has (inr fails) = fails.3 (has fails.1 (given_means a q fails.1 of fails.2)).1

-- ---- the lines

abbrev pub claim_of : Option Point → Option (ℤ × ℤ)
claim_of None = None
claim_of (Some q) = Some (q.z, q.d)

point_cut_passes : (a : Instance) (best : Option Point) (ng : List Choice) (e v : ℤ) (mult : List (ℕ × ℤ)) (why : NoWhy) → IsSoundCut a best (cut.Point ng mult e v) → PointCutFails a (claim_of best) ng e mult why → ⊥
point_cut_passes a None ng e v mult why sound fails = sound.1
point_cut_passes a (Some q) ng e v mult why sound fails =
    let P : ℤ → Type 0 = λ w. Passes a (cut.Point ng mult e w) in
    let passes : P (right_sum a mult) = subst P (sym sound.0.bound) sound.0 in
    let L : ℤ → ℤ → Type 0 = λ x w. x ≤ℤ (w *ℤ q.d) in
    let bound : L (q.z *ℤ e) (right_sum a mult) = subst (λ x. L x (right_sum a mult)) (mul_comm e q.z) (subst (λ w. L (e *ℤ q.z) w) (sym sound.0.bound) sound.1) in
    elim fails [
      | inl x ↦ x.1 passes
      | inr x ↦ x.2 bound
    ]

line_passes : (a : Instance) (d : Part) (earlier : List (List Choice)) (l : CertLine) (why : NoWhy) → All (IsSoundCut a d.best) d.absorbed → IsBackedLine a d earlier l → NoGoodFails a (claim_of d.best) earlier l why → ⊥
line_passes a d earlier (line.Ray ng mult) why sound backed fails = fails.1 (All-contains (IsSoundCut a d.best) d.absorbed (cut.Ray ng mult) sound backed).0
line_passes a d earlier (line.Point ng e mult) why sound backed fails =
    point_cut_passes a d.best ng e backed.0 mult why (All-contains (IsSoundCut a d.best) d.absorbed (cut.Point ng mult e backed.0) sound backed.1) fails
line_passes a d earlier (line.Derived ng hints) why sound backed fails = fails.1 backed

pub lines_pass : (a : Instance) (d : Part) (lines : List CertLine) (first n : ℕ) (why : NoWhy) → All (IsSoundCut a d.best) d.absorbed → AreBacked a d lines → NoGoodsFail a (claim_of d.best) lines first n why → ⊥
lines_pass a d lines first n why sound backed (inl f) = line_passes a d (map certs.no_good_of (take f.0 lines)) f.1 why sound (backed.each f.0 f.1 f.2) f.4
lines_pass a d lines first n why sound backed (inr f) = f.2 backed.ends

-- ---- the certificate

optimal_passes : (a : Instance) (d : Part) (q : Point) (lines : List CertLine) (n : ℕ) (why : NoWhy) → All (IsSoundCut a d.best) d.absorbed → IsBest a d.best → d.best ≡ Some q → AreBacked a d lines → LineFails a (cert.Optimal (cert_point q) q.z lines) n why → ⊥
optimal_passes a d q lines n why sound best is backed fails =
    let here : IsBest a (Some q) = subst (IsBest a) is best in
    elim fails [
      | inl f ↦ point_passes a q (IsComplementary a) why here.of (λ p means. ((here.feasible p means).met, (here.feasible p means).complementary)) f.1
      | inr (inl f) ↦ f.2 (here.of.cost ∙ ap (λ x. dot a.cost x) (numbers_again a.columns q.x here.of.fits.numbers.size))
      | inr (inr f) ↦
          let P : Option Point → Type 0 = λ b. NoGoodsFail a (claim_of b) lines 5 n why in
          lines_pass a d lines 5 n why sound backed (subst P (sym is) f)
    ]

infeasible_passes : (a : Instance) (d : Part) (lines : List CertLine) (n : ℕ) (why : NoWhy) → All (IsSoundCut a d.best) d.absorbed → d.best ≡ None → AreBacked a d lines → LineFails a (cert.Infeasible lines) n why → ⊥
infeasible_passes a d lines n why sound is backed fails =
    let P : Option Point → Type 0 = λ b. NoGoodsFail a (claim_of b) lines 3 n why in
    lines_pass a d lines 3 n why sound backed (subst P (sym is) fails)

recedes_again : (a : Instance) (piece : List Choice) (r : List ℤ) → length r ≡ a.columns → Recedes a piece r → Recedes a piece (numbers_of a.columns (terms_from 0 r))
recedes_again a piece r size h = subst (Recedes a piece) (numbers_again a.columns r size) h

unbounded_passes : (a : Instance) (x : Direction) (n : ℕ) (why : NoWhy) → IsDirection a x → LineFails a (cert.Unbounded (choices_of x.piece) (cert_point x.point) (terms_from 0 x.ray.r)) n why → ⊥
unbounded_passes a x n why h fails = elim fails [
  | inl f ↦ f.2 (whole_piece a x.piece h.piece)
  | inr (inl f) ↦ point_passes a x.point (λ p. IsTightAt a p (choices_of x.piece)) why h.point (λ p means. let lies = h.lies p means in (lies.met, tight_in_piece a x.piece p lies)) f.1
  | inr (inr f) ↦ f.2 (columns_named a x.ray.r h.numbers.size, recedes_again a (choices_of x.piece) x.ray.r h.numbers.size h.recedes)
]

optimal_accepted : (a : Instance) (drawn : List (List Side)) (d : Part) (point : CertPoint) (z : ℤ) (lines : List CertLine) (w : Verdict) → IsTrueToBest a drawn d → IsBackedCert a d kind.Optimal (cert.Optimal point z lines) → Says a d kind.Optimal w → Accepts a (cert.Optimal point z lines) w
optimal_accepted a drawn d point z lines (verdict.Optimal value) h made says =
    let q = made.0 in
    let P : CertPoint → ℤ → Type 0 = λ x y. Accepts a (cert.Optimal x y lines) (verdict.Optimal value) in
    let same : says.0 ≡ q = some_same (sym says.1 ∙ made.1) in
    subst (λ x. P x z) (sym made.2) (subst (λ y. P (cert_point q) y) (sym made.3) record {
      passes = λ n why fails. optimal_passes a d q lines n why h.cuts h.best made.1 made.4 fails;
      claims = subst (λ r. IsValue a r.z r.d value) same says.2;
    })
  where
    some_same : {X : Type 0} {x y : X} → Some x ≡ Some y → x ≡ y
    some_same e = cc
optimal_accepted a drawn d point z lines verdict.Infeasible h made says = absurd says
optimal_accepted a drawn d point z lines verdict.Unbounded h made says = absurd says

infeasible_accepted : (a : Instance) (drawn : List (List Side)) (d : Part) (lines : List CertLine) (w : Verdict) → IsTrueToBest a drawn d → IsBackedCert a d kind.Infeasible (cert.Infeasible lines) → Says a d kind.Infeasible w → Accepts a (cert.Infeasible lines) w
infeasible_accepted a drawn d lines (verdict.Optimal value) h made says = absurd says
infeasible_accepted a drawn d lines verdict.Infeasible h made says = record { passes = λ n why fails. infeasible_passes a d lines n why h.cuts made.0 made.1 fails; claims = tt }
infeasible_accepted a drawn d lines verdict.Unbounded h made says = absurd says

unbounded_accepted : (a : Instance) (drawn : List (List Side)) (d : Part) (piece : List Choice) (point : CertPoint) (ray : List (ℕ × ℤ)) (w : Verdict) → IsTrueToBest a drawn d → IsBackedCert a d kind.Unbounded (cert.Unbounded piece point ray) → Says a d kind.Unbounded w → Accepts a (cert.Unbounded piece point ray) w
unbounded_accepted a drawn d piece point ray (verdict.Optimal value) h made says = absurd says
unbounded_accepted a drawn d piece point ray verdict.Infeasible h made says = absurd says
unbounded_accepted a drawn d piece point ray verdict.Unbounded h made says =
    let x = made.0 in
    let is : IsDirection a x = subst (IsKept a) made.1 h.unbounded in
    let P : List Choice → CertPoint → List (ℕ × ℤ) → Type 0 = λ u v w. Accepts a (cert.Unbounded u v w) verdict.Unbounded in
    subst (λ u. P u point ray) (sym made.2) (subst (λ v. P (choices_of x.piece) v ray) (sym made.3) (subst (λ w. P (choices_of x.piece) (cert_point x.point) w) (sym made.4) record {
      passes = λ n why fails. unbounded_passes a x n why is fails;
      claims = tt;
    }))

pub cert_accepted : (a : Instance) (drawn : List (List Side)) (d : Part) (v : VerdictKind) (c : Cert) (w : Verdict) → IsTrueToBest a drawn d → IsBackedCert a d v c → Says a d v w → Accepts a c w
cert_accepted a drawn d kind.Optimal (cert.Optimal point z lines) w h made says = optimal_accepted a drawn d point z lines w h made says
cert_accepted a drawn d kind.Optimal (cert.Infeasible lines) w h made says = absurd made
cert_accepted a drawn d kind.Optimal (cert.Unbounded piece point ray) w h made says = absurd made
cert_accepted a drawn d kind.Infeasible (cert.Optimal point z lines) w h made says = absurd made
cert_accepted a drawn d kind.Infeasible (cert.Infeasible lines) w h made says = infeasible_accepted a drawn d lines w h made says
cert_accepted a drawn d kind.Infeasible (cert.Unbounded piece point ray) w h made says = absurd made
cert_accepted a drawn d kind.Unbounded (cert.Optimal point z lines) w h made says = absurd made
cert_accepted a drawn d kind.Unbounded (cert.Infeasible lines) w h made says = absurd made
cert_accepted a drawn d kind.Unbounded (cert.Unbounded piece point ray) w h made says = unbounded_accepted a drawn d piece point ray w h made says
