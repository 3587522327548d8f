-- Acceptance of a certificate of either form for an instance: a matter of these two alone. The content lines are counted
-- from 1; the first that fails is named with its reason. Form 2 is judged as form 1 is, with lists and dropped lines.
use Rattle.std.specs.Prelude.{◌≡◌, ◌<◌, ◌+◌, ◌-◌, ◌⊎◌, ℕ, ℤ, false, List, [], All, Option, Some, None, length, slice_get, take}
use Rattle.lp_base.specs.Answers.{UnlessShort}
use Rattle.nogoods.specs.declared.choice.Choice.{Choice}
use Rattle.lpcc_case.specs.Instance.{Instance}
use Rattle.lpcc_case.specs.Points.{IsComplementary}
use Rattle.lpcc_case.specs.declared.verdict.Verdict.{Verdict}
use Rattle.cert_text.specs.declared.cert.Cert.TheVariants as cert
use Rattle.cert_text.specs.declared.cert.CertPoint.{CertPoint}
use Rattle.cert_text.specs.declared.cert.CertLine.TheVariants as line
use Rattle.cert_text.specs.Certs.{KeepsForm}
use Rattle.cert_check.specs.declared.accept.NoWhy.{NoWhy}
use Rattle.cert_check.specs.declared.accept.NoWhy.TheVariants.{ValueFails, WrongKind, HintFails, NotEmptyAtEnd, ListFails, DropFails}
use Rattle.cert_check.specs.declared.accept.CheckFault.{CheckFault}
use Rattle.cert_check.specs.Acceptance.{PointLineFails, HasCost, NoGoodFails, HintsPass, LineFails, Claims, found_by}
use Rattle.cert2_text.specs.declared.cert2.AnyCert.{AnyCert}
use Rattle.cert2_text.specs.declared.cert2.AnyCert.TheVariants.{One, Two}
use Rattle.cert2_text.specs.declared.cert2.Cert2.{Cert2}
use Rattle.cert2_text.specs.declared.cert2.Cert2.TheVariants.{Optimal, Infeasible, Unbounded}
use Rattle.cert2_text.specs.declared.cert2.Cert2Line.{Cert2Line}
use Rattle.cert2_text.specs.declared.cert2.Cert2Line.TheVariants.{Shared, Ray, Point, Derived, Forget}
use Rattle.cert2_text.specs.Certs2.{KeepsForm2}
use Rattle.cert2_text.specs.Wholes.{Terms, Said, said_by, no_goods_of, is_dropped, all_terms, whole_of}

-- ---- lines, over what the lines before them say

-- the list that a line names, if it names one, is one of these
abbrev pub IsListed : List Terms → Option ℕ → Type 0
IsListed lists None = Unit {0}
IsListed lists (Some h) = h < length lists

-- the list is not there; or it is, and the cut with all its multipliers fails
abbrev pub CutFails2 : List Terms → Option ℕ → Type 0 → NoWhy → Type 0
CutFails2 lists list Fails why = ((why ≡ ListFails) × (IsListed lists list → ⊥)) ⊎ (IsListed lists list × Fails)

-- a point cut has its place where a value z / d is claimed
abbrev pub PointFails2 : Instance → Option (ℤ × ℤ) → Said → List Choice → ℤ → Option ℕ → Terms → NoWhy → Type 0
PointFails2 a None said ng e list mult why = why ≡ WrongKind
PointFails2 a (Some value) said ng e list mult why =
    CutFails2 said.lists list (NoGoodFails a (Some value) said.no_goods (line.Point ng e (all_terms said.lists list mult)) why) why

-- none of the lines with these numbers is dropped
abbrev pub AreKept : List ℕ → List ℕ → Type 0
AreKept dropped hints = All (λ h. is_dropped dropped h ≡ false) hints

-- the numbers are those of no-good lines that are not dropped yet
abbrev pub MayDrop : Said → List ℕ → Type 0
MayDrop said lines = All (λ h. (h < length said.no_goods) × (is_dropped said.dropped h ≡ false)) lines

abbrev pub HintsPass2 : Instance → Said → List Choice → List ℕ → Type 0
HintsPass2 a said ng hints = HintsPass a said.no_goods ng hints × AreKept said.dropped hints

abbrev pub Line2Fails : Instance → Option (ℤ × ℤ) → Said → Cert2Line → NoWhy → Type 0
Line2Fails a value said (Shared mult) why = ⊥
Line2Fails a value said (Ray ng list mult) why =
    CutFails2 said.lists list (NoGoodFails a value said.no_goods (line.Ray ng (all_terms said.lists list mult)) why) why
Line2Fails a value said (Point ng e list mult) why = PointFails2 a value said ng e list mult why
Line2Fails a value said (Derived ng hints) why = (why ≡ HintFails) × (HintsPass2 a said ng hints → ⊥)
Line2Fails a value said (Forget lines) why = (why ≡ DropFails) × (MayDrop said lines → ⊥)

-- there is a last no-good line, dropped or not, and it has no choices
abbrev pub EndsEmpty2 : List Cert2Line → Type 0
EndsEmpty2 lines = slice_get (no_goods_of lines) (length (no_goods_of lines) - 1) ≡ Some []

-- the lines stand from content line `first` on, and the last line behind them
abbrev pub Lines2Fail : Instance → Option (ℤ × ℤ) → List Cert2Line → ℕ → ℕ → NoWhy → Type 0
Lines2Fail a value lines first n why =
    ((k : ℕ) × (x : Cert2Line) × (slice_get lines k ≡ Some x) × (n ≡ first + k) × Line2Fails a value (said_by (take k lines)) x why)
    ⊎ ((n ≡ first + length lines) × (why ≡ NotEmptyAtEnd) × (EndsEmpty2 lines → ⊥))

-- ---- the certificate

-- the lines of the point and its value
abbrev pub FrontFails : Instance → CertPoint → ℤ → ℕ → NoWhy → Type 0
FrontFails a point z n why =
    ((n ≡ 3) × PointLineFails a (IsComplementary a) point why)
    ⊎ ((n ≡ 4) × (why ≡ ValueFails) × (HasCost a point z → ⊥))

-- the content line of this number fails, for this reason
abbrev pub LineFails2 : Instance → Cert2 → ℕ → NoWhy → Type 0
LineFails2 a (Optimal point z lines) n why = FrontFails a point z n why ⊎ Lines2Fail a (Some (z, point.d)) lines 5 n why
LineFails2 a (Infeasible lines) n why = Lines2Fail a None lines 3 n why
LineFails2 a (Unbounded piece point ray) n why = LineFails a (cert.Unbounded piece point ray) n why

abbrev pub LineFailsAny : Instance → AnyCert → ℕ → NoWhy → Type 0
LineFailsAny a (One c) n why = LineFails a c n why
LineFailsAny a (Two c) n why = LineFails2 a c n why

-- the first line that fails
pub record RefusesAny (a : Instance) (c : AnyCert) (n : ℕ) (why : NoWhy) : Type 0 where
  pub fails : LineFailsAny a c n why
  pub first : (m : ℕ) (other : NoWhy) → m < n → LineFailsAny a c m other → ⊥

-- the verdict that the certificate claims
abbrev pub ClaimsAny : Instance → AnyCert → Verdict → Type 0
ClaimsAny a (One c) v = Claims a c v
ClaimsAny a (Two c) v = Claims a (whole_of c) v

-- no line fails, and this is the verdict
pub record AcceptsAny (a : Instance) (c : AnyCert) (v : Verdict) : Type 0 where
  pub passes : (n : ℕ) (why : NoWhy) → LineFailsAny a c n why → ⊥
  pub claims : ClaimsAny a c v

-- the line and the reason that are named are the first, unless memory is short
abbrev pub RefusesAnyAs : Instance → AnyCert → CheckFault → Type 0
RefusesAnyAs a c fault = UnlessShort found_by (λ found. RefusesAny a c found.0 found.1) fault

-- the certificate keeps the rules of its form
abbrev pub KeepsAny : AnyCert → Type 0
KeepsAny (One c) = KeepsForm c
KeepsAny (Two c) = KeepsForm2 c
