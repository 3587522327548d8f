-- Acceptance of a certificate for an instance: a matter of these two alone. The content lines of the certificate are
-- counted from 1, the head and the kind being the first two; the first line that fails is named with its reason.
use Rattle.std.specs.Prelude.{◌≡◌, ◌<◌, ◌+◌, ◌-◌, ◌⊎◌, ℕ, ℤ, pos, ◌*ℤ◌, ◌≤ℤ◌, true, List, [], All, Option, Some, None, length, map, slice_get, take}
use Rattle.std.specs.List.{range_with_len}
use Rattle.lp_base.specs.Answers.{UnlessShort}
use Rattle.lp_base.specs.Sums.{dot}
use Rattle.nogoods.specs.declared.choice.Choice.{Choice}
use Rattle.lpcc_case.specs.Instance.{Instance}
use Rattle.lpcc_case.specs.Points.{Point, MeetsAll, IsComplementary, IsTightAt, Recedes, coefficient}
use Rattle.lpcc_case.specs.Values.{IsValue}
use Rattle.lpcc_case.specs.declared.verdict.Verdict.{Verdict}
use Rattle.lpcc_case.specs.declared.verdict.Verdict.TheVariants as verdict
use Rattle.cuts.specs.declared.cut.Cut.TheVariants as cut
use Rattle.cuts.specs.Cuts.{Passes, right_sum}
use Rattle.derivation.specs.HintRuns.{closes}
use Rattle.derivation.specs.Logs.{NamesPairs}
use Rattle.cert_text.specs.declared.cert.Cert.{Cert}
use Rattle.cert_text.specs.declared.cert.Cert.TheVariants.{Optimal, Infeasible, Unbounded}
use Rattle.cert_text.specs.declared.cert.CertPoint.{CertPoint}
use Rattle.cert_text.specs.declared.cert.CertLine.{CertLine}
use Rattle.cert_text.specs.declared.cert.CertLine.TheVariants.{Ray, Point as PointCut, Derived}
use Rattle.cert_text.specs.Certs.{no_good_of}
use Rattle.cert_check.specs.declared.accept.NoWhy.{NoWhy}
use Rattle.cert_check.specs.declared.accept.NoWhy.TheVariants.{PointFails, NotComplementary, ValueFails, RayFails, WrongKind, CutFails, BoundLow, HintFails, NotEmptyAtEnd}
use Rattle.cert_check.specs.declared.accept.CheckFault.{CheckFault}
use Rattle.cert_check.specs.declared.accept.CheckFault.TheVariants.{No, NoMemory}

-- ---- points and rays, given by the columns that are not zero

abbrev pub NamesColumns : Instance → List (ℕ × ℤ) → Type 0
NamesColumns a terms = All (λ t. t.0 < a.columns) terms

-- a number for each column: the term's, or 0
abbrev pub numbers_of : ℕ → List (ℕ × ℤ) → List ℤ
numbers_of columns terms = map (coefficient terms) (range_with_len 0 columns)

-- the line names columns of the instance, and gives the point p, which meets all constraints
pub record GivesMet (a : Instance) (line : CertPoint) (p : Point a.columns) : Type 0 where
  pub columns : NamesColumns a line.terms
  pub numbers : p.x ≡ numbers_of a.columns line.terms
  pub denominator : pos p.d ≡ line.d
  pub met : MeetsAll a p

-- the line's point is not there or does not meet all constraints; or it does, and lacks what it should have besides
abbrev pub PointLineFails : (a : Instance) → (Point a.columns → Type 0) → CertPoint → NoWhy → Type 0
PointLineFails a Asked line why =
    ((why ≡ PointFails) × ((p : Point a.columns) → GivesMet a line p → ⊥))
    ⊎ ((why ≡ NotComplementary) × (p : Point a.columns) × GivesMet a line p × (Asked p → ⊥))

-- z is the sum of the costs times the numbers
abbrev pub HasCost : Instance → CertPoint → ℤ → Type 0
HasCost a line z = z ≡ dot a.cost (numbers_of a.columns line.terms)

-- one choice for each pair
abbrev pub IsWholePiece : Instance → List Choice → Type 0
IsWholePiece a piece = map (λ c. c.pair) piece ≡ range_with_len 0 (length a.pairs)

-- the terms name columns, and the direction recedes for the piece
abbrev pub RayPasses : Instance → List Choice → List (ℕ × ℤ) → Type 0
RayPasses a piece ray = NamesColumns a ray × Recedes a piece (numbers_of a.columns ray)

-- ---- no-good lines, over the no-goods of the lines before them

-- the bound v / e of a point cut is at least the value z / d
abbrev pub IsBoundFor : ℤ × ℤ → ℤ → ℤ → Type 0
IsBoundFor value e v = (value.0 *ℤ e) ≤ℤ (v *ℤ value.1)

-- the point cut whose bound is the sum of the right sides times their multipliers, over e: a dual bound
abbrev pub PointCutPasses : Instance → List Choice → ℤ → List (ℕ × ℤ) → Type 0
PointCutPasses a ng e mult = Passes a (cut.Point ng mult e (right_sum a mult))

-- a point cut has its place where a value z / d is claimed; its test is passed, and its bound is at least that value
abbrev pub PointCutFails : Instance → Option (ℤ × ℤ) → List Choice → ℤ → List (ℕ × ℤ) → NoWhy → Type 0
PointCutFails a None ng e mult why = why ≡ WrongKind
PointCutFails a (Some value) ng e mult why =
    ((why ≡ CutFails) × (PointCutPasses a ng e mult → ⊥))
    ⊎ ((why ≡ BoundLow) × PointCutPasses a ng e mult × (IsBoundFor value e (right_sum a mult) → ⊥))

-- the choices name pairs of the instance, and the hint run closes
abbrev pub HintsPass : Instance → List (List Choice) → List Choice → List ℕ → Type 0
HintsPass a earlier ng hints = NamesPairs a ng × (closes earlier ng hints ≡ true)

abbrev pub NoGoodFails : Instance → Option (ℤ × ℤ) → List (List Choice) → CertLine → NoWhy → Type 0
NoGoodFails a value earlier (Ray ng mult) why = (why ≡ CutFails) × (Passes a (cut.Ray ng mult) → ⊥)
NoGoodFails a value earlier (PointCut ng e mult) why = PointCutFails a value ng e mult why
NoGoodFails a value earlier (Derived ng hints) why = (why ≡ HintFails) × (HintsPass a earlier ng hints → ⊥)

-- there is a last no-good line, and it has no choices
abbrev pub EndsEmpty : List CertLine → Type 0
EndsEmpty lines = slice_get (map no_good_of lines) (length lines - 1) ≡ Some []

-- The no-good lines stand from content line `first` on, and the last line behind them.
abbrev pub NoGoodsFail : Instance → Option (ℤ × ℤ) → List CertLine → ℕ → ℕ → NoWhy → Type 0
NoGoodsFail a value lines first n why =
    ((k : ℕ) × (line : CertLine) × (slice_get lines k ≡ Some line) × (n ≡ first + k) × NoGoodFails a value (map no_good_of (take k lines)) line why)
    ⊎ ((n ≡ first + length lines) × (why ≡ NotEmptyAtEnd) × (EndsEmpty lines → ⊥))

-- ---- the certificate

-- the content line of this number fails, for this reason
abbrev pub LineFails : Instance → Cert → ℕ → NoWhy → Type 0
LineFails a (Optimal point z lines) n why =
    ((n ≡ 3) × PointLineFails a (IsComplementary a) point why)
    ⊎ ((n ≡ 4) × (why ≡ ValueFails) × (HasCost a point z → ⊥))
    ⊎ NoGoodsFail a (Some (z, point.d)) lines 5 n why
LineFails a (Infeasible lines) n why = NoGoodsFail a None lines 3 n why
LineFails a (Unbounded piece point ray) n why =
    ((n ≡ 3) × (why ≡ NotComplementary) × (IsWholePiece a piece → ⊥))
    ⊎ ((n ≡ 4) × PointLineFails a (λ p. IsTightAt a p piece) point why)
    ⊎ ((n ≡ 5) × (why ≡ RayFails) × (RayPasses a piece ray → ⊥))

-- the first line that fails
pub record Refuses (a : Instance) (cert : Cert) (n : ℕ) (why : NoWhy) : Type 0 where
  pub fails : LineFails a cert n why
  pub first : (m : ℕ) (other : NoWhy) → m < n → LineFails a cert m other → ⊥

-- the verdict that the certificate claims
abbrev pub Claims : Instance → Cert → Verdict → Type 0
Claims a (Optimal point z lines) (verdict.Optimal value) = IsValue a z point.d value
Claims a (Optimal point z lines) verdict.Infeasible = ⊥
Claims a (Optimal point z lines) verdict.Unbounded = ⊥
Claims a (Infeasible lines) (verdict.Optimal value) = ⊥
Claims a (Infeasible lines) verdict.Infeasible = Unit {0}
Claims a (Infeasible lines) verdict.Unbounded = ⊥
Claims a (Unbounded piece point ray) (verdict.Optimal value) = ⊥
Claims a (Unbounded piece point ray) verdict.Infeasible = ⊥
Claims a (Unbounded piece point ray) verdict.Unbounded = Unit {0}

-- no line fails, and this is the verdict
pub record Accepts (a : Instance) (cert : Cert) (v : Verdict) : Type 0 where
  pub passes : (n : ℕ) (why : NoWhy) → LineFails a cert n why → ⊥
  pub claims : Claims a cert v

-- the line and the reason that a call names, none where memory is short
abbrev pub found_by : CheckFault → Option (ℕ × NoWhy)
found_by (No line why) = Some (line, why)
found_by (NoMemory error) = None

-- the line and the reason that are named are the first, unless memory is short
abbrev pub RefusesAs : Instance → Cert → CheckFault → Type 0
RefusesAs a cert fault = UnlessShort found_by (λ found. Refuses a cert found.0 found.1) fault
