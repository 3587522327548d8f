-- An answer that is right is the one answer that is.
use Rattle.std.proofs.Common.{◌≡◌, ℕ, ◌<◌, sym, subst, ◌∙◌, inl, inr, arith, ℤ, pos, ◌≤ℤ◌, List, [], take, Option, Some, None, Ok, Err, Result}
use Rattle.std.specs.Prelude.{IfOk, IfErr, slice_get}
use Rattle.std.proofs.lemmas.Bool.{cases_order}
use Rattle.std.proofs.lemmas.Option.{same_Some, slice_get_within}
use Rattle.lp_base.specs.Answers.{Gives, Refuses as IsRefused}
use Rattle.nogoods.specs.declared.choice.Choice.{Choice}
use Rattle.lpcc_case.specs.Instance.{Instance}
use Rattle.lpcc_case.specs.Verdicts.{IsTrueOf}
use Rattle.lpcc_case.specs.declared.verdict.Verdict.{Verdict}
use Rattle.cert_text.specs.declared.cert.Cert.TheVariants as cert
use Rattle.cert_text.specs.declared.cert.CertPoint.{CertPoint}
use Rattle.cert_text.specs.declared.cert.CertLine.TheVariants as line
use Rattle.cert_check.specs.declared.accept.NoWhy.{NoWhy}
use Rattle.cert_check.specs.declared.accept.CheckFault.{CheckFault}
use Rattle.cert_check.specs.declared.accept.CheckFault.TheVariants.{No, NoMemory}
use Rattle.cert_check.specs.Acceptance.{NoGoodFails, LineFails, found_by}
use Rattle.cert_check.proofs.Single.{one_reason, no_good_one, one_verdict}
use Rattle.cert2_text.specs.declared.cert2.AnyCert.{AnyCert}
use Rattle.cert2_text.specs.declared.cert2.AnyCert.TheVariants.{One, Two}
use Rattle.cert2_text.specs.declared.cert2.Cert2.{Cert2}
use Rattle.cert2_text.specs.declared.cert2.Cert2.TheVariants.{Optimal, Infeasible, Unbounded}
use Rattle.cert2_text.specs.declared.cert2.Cert2Line.{Cert2Line}
use Rattle.cert2_text.specs.declared.cert2.Cert2Line.TheVariants.{Shared, Ray, Point, Derived, Forget}
use Rattle.cert2_text.specs.Wholes.{Terms, Said, said_by, all_terms, whole_of}
use Rattle.cert2_check.specs.Acceptance2.{CutFails2, PointFails2, Line2Fails, Lines2Fail, FrontFails, LineFails2, LineFailsAny, RefusesAny, RefusesAnyAs, AcceptsAny}
use Rattle.cert2_check.proofs.Wholly.{whole_accepted, accepted_any_true}

-- ---- one reason for each line

cut_one : (lists : List Terms) (list : Option ℕ) (F : NoWhy → Type 0) (v w : NoWhy) → (F v → F w → v ≡ w) → CutFails2 lists list (F v) v → CutFails2 lists list (F w) w → v ≡ w
cut_one lists list F v w one (inl x) (inl y) = x.0 ∙ sym y.0
cut_one lists list F v w one (inl x) (inr y) = absurd (x.1 y.0)
cut_one lists list F v w one (inr x) (inl y) = absurd (y.1 x.0)
cut_one lists list F v w one (inr x) (inr y) = one x.1 y.1

point_one : (a : Instance) (value : Option (ℤ × ℤ)) (said : Said) (ng : List Choice) (e : ℤ) (list : Option ℕ) (mult : Terms) (v w : NoWhy) → PointFails2 a value said ng e list mult v → PointFails2 a value said ng e list mult w → v ≡ w
point_one a None said ng e list mult v w x y = x ∙ sym y
point_one a (Some value) said ng e list mult v w x y =
    let whole = line.Point ng e (all_terms said.lists list mult) in
    cut_one said.lists list (λ why. NoGoodFails a (Some value) said.no_goods whole why) v w (no_good_one a (Some value) said.no_goods whole v w) x y

line_one : (a : Instance) (value : Option (ℤ × ℤ)) (said : Said) (l : Cert2Line) (v w : NoWhy) → Line2Fails a value said l v → Line2Fails a value said l w → v ≡ w
line_one a value said (Shared mult) v w x y = absurd x
line_one a value said (Ray ng list mult) v w x y =
    let whole = line.Ray ng (all_terms said.lists list mult) in
    cut_one said.lists list (λ why. NoGoodFails a value said.no_goods whole why) v w (no_good_one a value said.no_goods whole v w) x y
line_one a value said (Point ng e list mult) v w x y = point_one a value said ng e list mult v w x y
line_one a value said (Derived ng hints) v w x y = x.0 ∙ sym y.0
line_one a value said (Forget hs) v w x y = x.0 ∙ sym y.0

at_one_place : (a : Instance) (value : Option (ℤ × ℤ)) (lines : List Cert2Line) (j k : ℕ) (l m : Cert2Line) (v w : NoWhy) → j ≡ k → slice_get lines j ≡ Some l → slice_get lines k ≡ Some m
    → Line2Fails a value (said_by (take j lines)) l v → Line2Fails a value (said_by (take k lines)) m w → v ≡ w
at_one_place a value lines j k l m v w same here there x y =
    let P : ℕ → Type 0 = λ i. slice_get lines i ≡ Some l in
    let Q : ℕ → Type 0 = λ i. Line2Fails a value (said_by (take i lines)) l v in
    let R : Cert2Line → Type 0 = λ z. Line2Fails a value (said_by (take k lines)) z v in
    let z : l ≡ m = same_Some l m (sym (subst P same here) ∙ there) in
    line_one a value (said_by (take k lines)) m v w (subst R z (subst Q same x)) y

lines_one : (a : Instance) (value : Option (ℤ × ℤ)) (lines : List Cert2Line) (first n : ℕ) (v w : NoWhy) → Lines2Fail a value lines first n v → Lines2Fail a value lines first n w → v ≡ w
lines_one a value lines first n v w (inl x) (inl y) =
    let same : x.0 ≡ y.0 = omega (arith, x.3, y.3) in
    at_one_place a value lines x.0 y.0 x.1 y.1 v w same x.2 y.2 x.4 y.4
lines_one a value lines first n v w (inl x) (inr y) = absurd (omega (arith, x.3, y.0, slice_get_within lines x.0 x.1 x.2))
lines_one a value lines first n v w (inr x) (inl y) = absurd (omega (arith, y.3, x.0, slice_get_within lines y.0 y.1 y.2))
lines_one a value lines first n v w (inr x) (inr y) = x.1 ∙ sym y.1

-- the lines of the point and its value fail as in form 1
as_one : (a : Instance) (point : CertPoint) (z : ℤ) (n : ℕ) (v : NoWhy) → FrontFails a point z n v → LineFails a (cert.Optimal point z []) n v
as_one a point z n v (inl x) = inl x
as_one a point z n v (inr x) = inr (inl x)

front_low : (a : Instance) (point : CertPoint) (z : ℤ) (n : ℕ) (v : NoWhy) → FrontFails a point z n v → n < 5
front_low a point z n v (inl x) = omega (arith, x.0)
front_low a point z n v (inr x) = omega (arith, x.0)

lines_high : (a : Instance) (value : Option (ℤ × ℤ)) (lines : List Cert2Line) (first n : ℕ) (v : NoWhy) → Lines2Fail a value lines first n v → n < first → ⊥
lines_high a value lines first n v (inl x) low = omega (arith, x.3, low)
lines_high a value lines first n v (inr x) low = omega (arith, x.0, low)

two_one : (a : Instance) (c : Cert2) (n : ℕ) (v w : NoWhy) → LineFails2 a c n v → LineFails2 a c n w → v ≡ w
two_one a (Optimal point z lines) n v w (inl x) (inl y) = one_reason a (cert.Optimal point z []) n v w (as_one a point z n v x) (as_one a point z n w y)
two_one a (Optimal point z lines) n v w (inl x) (inr y) = absurd (lines_high a (Some (z, point.d)) lines 5 n w y (front_low a point z n v x))
two_one a (Optimal point z lines) n v w (inr x) (inl y) = absurd (lines_high a (Some (z, point.d)) lines 5 n v x (front_low a point z n w y))
two_one a (Optimal point z lines) n v w (inr x) (inr y) = lines_one a (Some (z, point.d)) lines 5 n v w x y
two_one a (Infeasible lines) n v w x y = lines_one a None lines 3 n v w x y
two_one a (Unbounded piece point ray) n v w x y = one_reason a (cert.Unbounded piece point ray) n v w x y

any_one : (a : Instance) (c : AnyCert) (n : ℕ) (v w : NoWhy) → LineFailsAny a c n v → LineFailsAny a c n w → v ≡ w
any_one a (One c) n v w x y = one_reason a c n v w x y
any_one a (Two c) n v w x y = two_one a c n v w x y

-- ---- the first line that fails, and the verdict

pub one_refusal : (a : Instance) (c : AnyCert) (m n : ℕ) (v w : NoWhy) → RefusesAny a c m v → RefusesAny a c n w → (m ≡ n) × (v ≡ w)
one_refusal a c m n v w x y = elim (cases_order m n) [
  | inl same ↦
      let F : ℕ → Type 0 = λ k. LineFailsAny a c k v in
      (same, any_one a c n v w (subst F same x.fails) y.fails)
  | inr (inl below) ↦ absurd (y.first m v below x.fails)
  | inr (inr above) ↦ absurd (x.first n w above y.fails)
]

pub one_verdict_any : (a : Instance) (c : AnyCert) (v w : Verdict) → pos 1 ≤ℤ a.scale → AcceptsAny a c v → AcceptsAny a c w → v ≡ w
one_verdict_any a (One c) v w scale x y = one_verdict a c v w scale (record { passes = x.passes; claims = x.claims }) (record { passes = y.passes; claims = y.claims })
one_verdict_any a (Two c) v w scale x y = one_verdict a (whole_of c) v w scale (whole_accepted a c v x) (whole_accepted a c w y)

pub not_both_any : (a : Instance) (c : AnyCert) (v : Verdict) (n : ℕ) (why : NoWhy) → AcceptsAny a c v → RefusesAny a c n why → ⊥
not_both_any a c v n why accepted refused = accepted.passes n why refused.fails

-- ---- the clauses of the call

pub gives_verdict : (a : Instance) (c : AnyCert) (r : Result Verdict CheckFault) (v : Verdict) → pos 1 ≤ℤ a.scale → IfOk r (AcceptsAny a c) → IfErr r (RefusesAnyAs a c) → AcceptsAny a c v → Gives found_by v r
gives_verdict a c (Ok found) v scale accepted refused h = one_verdict_any a c found v scale accepted h
gives_verdict a c (Err (No line why)) v scale accepted refused h = absurd (h.passes line why refused.fails)
gives_verdict a c (Err (NoMemory error)) v scale accepted refused h = tt

pub gives_refusal : (a : Instance) (c : AnyCert) (r : Result Verdict CheckFault) (line : ℕ) (why : NoWhy) → IfOk r (AcceptsAny a c) → IfErr r (RefusesAnyAs a c) → RefusesAny a c line why → IsRefused found_by (line, why) r
gives_refusal a c (Ok found) line why accepted refused h = absurd (accepted.passes line why h.fails)
gives_refusal a c (Err (No n w)) line why accepted refused h = let same = one_refusal a c n line w why refused h in (λ i. (same.0 i, same.1 i))
gives_refusal a c (Err (NoMemory error)) line why accepted refused h = tt

pub gives_truth : (a : Instance) (c : AnyCert) (r : Result Verdict CheckFault) → IfOk r (AcceptsAny a c) → IfOk r (IsTrueOf a)
gives_truth a c (Ok found) accepted = accepted_any_true a c found accepted
gives_truth a c (Err fault) accepted = tt
