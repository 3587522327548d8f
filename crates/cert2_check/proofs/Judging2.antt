-- What the tests of single lines say of the first line that fails.
use Rattle.std.proofs.Common.{◌≡◌, ℕ, ◌+◌, ◌<◌, ◌≤◌, Bool, true, false, List, length, take, get_or, Option, Some, None, refl, sym, ap, subst, ◌∙◌, inl, inr, arith, ℤ, Result, Ok, Err}
use Rattle.std.specs.Prelude.{IfOk, IfErr, slice_get}
use Rattle.std.proofs.lemmas.Bool.{both_ways, cases_lt}
use Rattle.std.proofs.lemmas.Option.{slice_get-get_or, slice_get_within, same_Some}
use Rattle.lpcc_case.specs.Instance.{Instance}
use Rattle.lpcc_case.specs.Points.{IsComplementary}
use Rattle.lpcc_case.specs.Values.{IsValue}
use Rattle.lpcc_case.specs.declared.verdict.Verdict.{Verdict}
use Rattle.lpcc_case.specs.declared.verdict.Verdict.TheVariants as verdict
use Rattle.lp_nums.specs.Fractions.{Fraction}
use Rattle.nogoods.specs.declared.choice.Choice.{Choice}
use Rattle.cert_text.specs.declared.cert.Cert.{Cert}
use Rattle.cert_text.specs.declared.cert.Cert.TheVariants as cert
use Rattle.cert_text.specs.declared.cert.CertPoint.{CertPoint}
use Rattle.cert_check.specs.declared.accept.NoWhy.{NoWhy}
use Rattle.cert_check.specs.declared.accept.NoWhy.TheVariants.{ValueFails, NotEmptyAtEnd}
use Rattle.cert_check.specs.declared.accept.CheckFault.{CheckFault}
use Rattle.cert_check.specs.declared.accept.CheckFault.TheVariants.{No, NoMemory}
use Rattle.cert_check.specs.Acceptance.{PointLineFails, HasCost, Accepts, RefusesAs}
use Rattle.cert_check.specs.Results.{Finds, NamesFirst}
use Rattle.cert2_text.specs.declared.cert2.AnyCert.TheVariants.{One, Two}
use Rattle.cert2_text.specs.declared.cert2.Cert2.{Cert2}
use Rattle.cert2_text.specs.declared.cert2.Cert2.TheVariants.{Optimal, Infeasible, Unbounded}
use Rattle.cert2_text.specs.declared.cert2.Cert2Line.{Cert2Line}
use Rattle.cert2_text.specs.Wholes.{Said, said_by}
use Rattle.cert2_check.specs.declared.lines2.Found.TheVariants.{Fails, Passes}
use Rattle.cert2_check.specs.Acceptance2.{AcceptsAny, FrontFails, Line2Fails, LineFails2, Lines2Fail, RefusesAnyAs}
use Rattle.cert2_check.specs.Results2.{Before, Shows, FirstPass2, FindsFirst2, FrontPasses}

-- ---- the lines

-- one line more that does not fail
pub first_more : (a : Instance) (value : Option (ℤ × ℤ)) (lines : List Cert2Line) (n : ℕ) (x : Cert2Line) → n < length lines → x ≡ get_or lines n x → FirstPass2 a value lines n
    → ((why : NoWhy) → Line2Fails a value (said_by (take n lines)) x why → ⊥) → FirstPass2 a value lines (n + 1)
first_more a value lines n x inside is before here k y why lt found fails = elim (cases_lt k n) [
  | inl below ↦ before k y why below found fails
  | inr above ↦
      let same : k ≡ n = omega (arith, lt, above) in
      let line : y ≡ x = same_Some y x (sym found ∙ ap (slice_get lines) same ∙ slice_get-get_or lines n x inside ∙ ap (λ z. Some z) (sym is)) in
      here why (subst (λ (z : Cert2Line). Line2Fails a value (said_by (take n lines)) z why) line (subst (λ (j : ℕ). Line2Fails a value (said_by (take j lines)) y why) same fails))
]

pub found_at : (a : Instance) (value : Option (ℤ × ℤ)) (lines : List Cert2Line) (at : ℕ) (e : Before) (x : Cert2Line) (why : NoWhy) (found : Option NoWhy) → at < length lines → x ≡ get_or lines at x → FirstPass2 a value lines at
    → Shows e (said_by (take at lines)) → ((said : Said) → Shows e said → Finds (Line2Fails a value said x) found) → found ≡ Some why → FindsFirst2 a value lines (Fails at why)
found_at a value lines at e x why found inside is before shows judged some =
    let here : Finds (Line2Fails a value (said_by (take at lines)) x) (Some why) = subst (Finds (Line2Fails a value (said_by (take at lines)) x)) some (judged (said_by (take at lines)) shows) in
    ((x, slice_get-get_or lines at x inside ∙ ap (λ z. Some z) (sym is), here), before)

pub none_here : (a : Instance) (value : Option (ℤ × ℤ)) (e : Before) (said : Said) (x : Cert2Line) (found : Option NoWhy) → Shows e said → ((s : Said) → Shows e s → Finds (Line2Fails a value s x) found) → found ≡ None
    → (why : NoWhy) → Line2Fails a value said x why → ⊥
none_here a value e said x found shows judged none = subst (Finds (Line2Fails a value said x)) none (judged said shows)

lines_from : (a : Instance) (value : Option (ℤ × ℤ)) (lines : List Cert2Line) (first n : ℕ) (why : NoWhy) → Lines2Fail a value lines first n why → n < first → ⊥
lines_from a value lines first n why (inl x) before = omega (arith, x.3, before)
lines_from a value lines first n why (inr x) before = omega (arith, x.0, before)

-- the lines up to one pass
passed_up_to : (a : Instance) (value : Option (ℤ × ℤ)) (lines : List Cert2Line) (first at m : ℕ) (why : NoWhy) → at ≤ length lines → FirstPass2 a value lines at → Lines2Fail a value lines first m why → m < first + at → ⊥
passed_up_to a value lines first at m why few pass (inl x) before = pass x.0 x.1 why (omega (arith, x.3, before)) x.2 x.4
passed_up_to a value lines first at m why few pass (inr x) before = omega (arith, x.0, before, few)

pub line_named : (a : Instance) (value : Option (ℤ × ℤ)) (lines : List Cert2Line) (first at n : ℕ) (why : NoWhy) → n ≡ first + at → FindsFirst2 a value lines (Fails at why) → NamesFirst (Lines2Fail a value lines first) (No n why)
line_named a value lines first at n why is found =
    let x = found.0 in
    let few = slice_get_within lines at x.0 x.1 in (
      inl (at, x.0, x.1, is, x.2),
      λ m other before f. passed_up_to a value lines first at m other (omega (arith, few)) found.1 f (omega (arith, before, is)),
    )

pub end_named : (a : Instance) (value : Option (ℤ × ℤ)) (lines : List Cert2Line) (first n : ℕ) (empty : Bool) → n ≡ first + length lines → empty ≡ false → FindsFirst2 a value lines (Passes empty) → NamesFirst (Lines2Fail a value lines first) (No n NotEmptyAtEnd)
end_named a value lines first n empty is gone found = (
  inr (is, refl, λ ends. both_ways empty gone (found.1.1 ends)),
  λ m other before f. passed_up_to a value lines first (length lines) m other (omega arith) found.0 f (omega (arith, before, is)),
)

pub all_pass : (a : Instance) (value : Option (ℤ × ℤ)) (lines : List Cert2Line) (first : ℕ) (empty : Bool) → empty ≡ true → FindsFirst2 a value lines (Passes empty) → (n : ℕ) (why : NoWhy) → Lines2Fail a value lines first n why → ⊥
all_pass a value lines first empty there found n why (inl x) = found.0 x.0 x.1 why (slice_get_within lines x.0 x.1 x.2) x.2 x.4
all_pass a value lines first empty there found n why (inr x) = x.2 (found.1.0 there)

-- ---- a certificate of an optimum

no_front : (a : Instance) (line : CertPoint) (z : ℤ) (v : Fraction) (n : ℕ) (why : NoWhy) → FrontPasses a line z v → FrontFails a line z n why → ⊥
no_front a line z v n why p (inl x) = p.point why x.1
no_front a line z v n why p (inr x) = x.2 p.cost

front_first : (a : Instance) (line : CertPoint) (z : ℤ) (n : ℕ) (why : NoWhy) → FrontFails a line z n why → n < 5
front_first a line z n why (inl x) = omega (arith, x.0)
front_first a line z n why (inr x) = omega (arith, x.0)

pub front_refused : (a : Instance) (line : CertPoint) (z : ℤ) (lines : List Cert2Line) (fault : CheckFault) → NamesFirst (FrontFails a line z) fault → RefusesAnyAs a (Two (Optimal line z lines)) fault
front_refused a line z lines (NoMemory e) h = tt
front_refused a line z lines (No n why) h = record { fails = inl h.0; first = no_earlier }
  where
    no_earlier : (m : ℕ) (other : NoWhy) → m < n → LineFails2 a (Optimal line z lines) m other → ⊥
    no_earlier m other before (inl f) = h.1 m other before f
    no_earlier m other before (inr f) = lines_from a (Some (z, line.d)) lines 5 m other f (omega (arith, before, front_first a line z n why h.0))

pub lines_refused : (a : Instance) (line : CertPoint) (z : ℤ) (lines : List Cert2Line) (v : Fraction) (fault : CheckFault) {value : Option (ℤ × ℤ)} → FrontPasses a line z v → value ≡ Some (z, line.d) → NamesFirst (Lines2Fail a value lines 5) fault → RefusesAnyAs a (Two (Optimal line z lines)) fault
lines_refused a line z lines v (NoMemory e) p same h = tt
lines_refused a line z lines v (No n why) p same h =
    let here = subst (λ w. NamesFirst (Lines2Fail a w lines 5) (No n why)) same h in
    record { fails = inr here.0; first = no_earlier here.1 }
  where
    no_earlier : ((m : ℕ) (other : NoWhy) → m < n → Lines2Fail a (Some (z, line.d)) lines 5 m other → ⊥) → (m : ℕ) (other : NoWhy) → m < n → LineFails2 a (Optimal line z lines) m other → ⊥
    no_earlier first m other before (inl f) = no_front a line z v m other p f
    no_earlier first m other before (inr f) = first m other before f

pub optimal_accepted : (a : Instance) (line : CertPoint) (z : ℤ) (lines : List Cert2Line) (v : Fraction) {value : Option (ℤ × ℤ)} → FrontPasses a line z v → value ≡ Some (z, line.d) → ((n : ℕ) (why : NoWhy) → Lines2Fail a value lines 5 n why → ⊥)
    → AcceptsAny a (Two (Optimal line z lines)) (verdict.Optimal v)
optimal_accepted a line z lines v p same none = record { passes = passes (subst (λ w. (n : ℕ) (why : NoWhy) → Lines2Fail a w lines 5 n why → ⊥) same none); claims = p.value }
  where
    passes : ((n : ℕ) (why : NoWhy) → Lines2Fail a (Some (z, line.d)) lines 5 n why → ⊥) → (n : ℕ) (why : NoWhy) → LineFails2 a (Optimal line z lines) n why → ⊥
    passes none n why (inl f) = no_front a line z v n why p f
    passes none n why (inr f) = none n why f

-- the front, as its parts are found
pub point_refused : (a : Instance) (line : CertPoint) (z : ℤ) (why : NoWhy) → PointLineFails a (IsComplementary a) line why → NamesFirst (FrontFails a line z) (No 3 why)
point_refused a line z why fails = (inl (refl, fails), no_earlier)
  where
    no_earlier : (m : ℕ) (other : NoWhy) → m < 3 → FrontFails a line z m other → ⊥
    no_earlier m other before (inl x) = omega (arith, x.0, before)
    no_earlier m other before (inr x) = omega (arith, x.0, before)

pub value_refused : (a : Instance) (line : CertPoint) (z : ℤ) → ((why : NoWhy) → PointLineFails a (IsComplementary a) line why → ⊥) → (HasCost a line z → ⊥) → NamesFirst (FrontFails a line z) (No 4 ValueFails)
value_refused a line z passes fails = (inr (refl, refl, fails), no_earlier)
  where
    no_earlier : (m : ℕ) (other : NoWhy) → m < 4 → FrontFails a line z m other → ⊥
    no_earlier m other before (inl x) = passes other x.1
    no_earlier m other before (inr x) = omega (arith, x.0, before)

pub front_passed : (a : Instance) (line : CertPoint) (z : ℤ) (v : Fraction) (y d : ℤ) → ((why : NoWhy) → PointLineFails a (IsComplementary a) line why → ⊥) → HasCost a line z → y ≡ z → d ≡ line.d → IsValue a y d v → FrontPasses a line z v
front_passed a line z v y d passes cost same_z same_d is = record { point = passes; cost = cost; value = rw (← same_z, ← same_d) is }

-- ---- other certificates

pub infeasible_refused : (a : Instance) (lines : List Cert2Line) (fault : CheckFault) → NamesFirst (Lines2Fail a None lines 3) fault → RefusesAnyAs a (Two (Infeasible lines)) fault
infeasible_refused a lines (NoMemory e) h = tt
infeasible_refused a lines (No n why) h = record { fails = h.0; first = h.1 }

pub infeasible_accepted : (a : Instance) (lines : List Cert2Line) → ((n : ℕ) (why : NoWhy) → Lines2Fail a None lines 3 n why → ⊥) → AcceptsAny a (Two (Infeasible lines)) verdict.Infeasible
infeasible_accepted a lines none = record { passes = none; claims = tt }

pub one_accepted : (a : Instance) (c : Cert) (r : Result Verdict CheckFault) → IfOk r (Accepts a c) → IfOk r (AcceptsAny a (One c))
one_accepted a c (Ok v) h = record { passes = h.passes; claims = h.claims }
one_accepted a c (Err fault) h = tt

pub one_refused : (a : Instance) (c : Cert) (r : Result Verdict CheckFault) → IfErr r (RefusesAs a c) → IfErr r (RefusesAnyAs a (One c))
one_refused a c (Ok v) h = tt
one_refused a c (Err (NoMemory e)) h = tt
one_refused a c (Err (No n why)) h = record { fails = h.fails; first = h.first }

pub unbounded_accepted : (a : Instance) (c : Cert2) (piece : List Choice) (point : CertPoint) (ray ray2 : List (ℕ × ℤ)) (r : Result Verdict CheckFault) → c ≡ Unbounded piece point ray → ray2 ≡ ray
    → IfOk r (Accepts a (cert.Unbounded piece point ray2)) → IfOk r (AcceptsAny a (Two c))
unbounded_accepted a c piece point ray ray2 r is same h =
    subst (λ (d : Cert2). IfOk r (AcceptsAny a (Two d))) (sym is) (by_result r (subst (λ (ts : List (ℕ × ℤ)). IfOk r (Accepts a (cert.Unbounded piece point ts))) same h))
  where
    by_result : (r : Result Verdict CheckFault) → IfOk r (Accepts a (cert.Unbounded piece point ray)) → IfOk r (AcceptsAny a (Two (Unbounded piece point ray)))
    by_result (Ok v) h = record { passes = h.passes; claims = h.claims }
    by_result (Err fault) h = tt

pub unbounded_refused : (a : Instance) (c : Cert2) (piece : List Choice) (point : CertPoint) (ray ray2 : List (ℕ × ℤ)) (r : Result Verdict CheckFault) → c ≡ Unbounded piece point ray → ray2 ≡ ray
    → IfErr r (RefusesAs a (cert.Unbounded piece point ray2)) → IfErr r (RefusesAnyAs a (Two c))
unbounded_refused a c piece point ray ray2 r is same h =
    subst (λ (d : Cert2). IfErr r (RefusesAnyAs a (Two d))) (sym is) (by_result r (subst (λ (ts : List (ℕ × ℤ)). IfErr r (RefusesAs a (cert.Unbounded piece point ts))) same h))
  where
    by_result : (r : Result Verdict CheckFault) → IfErr r (RefusesAs a (cert.Unbounded piece point ray)) → IfErr r (RefusesAnyAs a (Two (Unbounded piece point ray)))
    by_result (Ok v) h = tt
    by_result (Err (NoMemory e)) h = tt
    by_result (Err (No n why)) h = record { fails = h.fails; first = h.first }
