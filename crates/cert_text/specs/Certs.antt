-- Certificates, and the rules of their form.
use Rattle.std.specs.Prelude.{◌≢◌, ◌<◌, ◌≤◌, ◌^◌, ◌-◌, ◌≤ℤ◌, ℕ, ℤ, pos, List, [], All, IsTrue, unsigned_abs}
use Rattle.lp_base.specs.Ascending.{ascends_by}
pub use Rattle.lp_base.specs.Ascending.{number_of}
use Rattle.lp_base.specs.Numbers.{IsNarrow}
use Rattle.lp_base.specs.declared.limits.TheConstants.{LARGEST_WORD, MOST_PAIRS}
use Rattle.nogoods.specs.declared.choice.Choice.{Choice}
use Rattle.nogoods.specs.Choices.{pairs_ascend}
use Rattle.cert_text.specs.declared.cert.Cert.{Cert}
use Rattle.cert_text.specs.declared.cert.Cert.TheVariants.{Optimal, Infeasible, Unbounded}
use Rattle.cert_text.specs.declared.cert.CertPoint.{CertPoint}
use Rattle.cert_text.specs.declared.cert.CertLine.{CertLine}
use Rattle.cert_text.specs.declared.cert.CertLine.TheVariants.{Ray, Point, Derived}

abbrev pub no_good_of : CertLine → List Choice
no_good_of (Ray ng mult) = ng
no_good_of (Point ng e mult) = ng
no_good_of (Derived ng hints) = ng

-- the no-good lines
abbrev pub lines_of : Cert → List CertLine
lines_of (Optimal point z lines) = lines
lines_of (Infeasible lines) = lines
lines_of (Unbounded piece point ray) = []

-- a choice names one of at most 512 pairs, and the pairs ascend strictly
pub record IsNoGood (ng : List Choice) : Type 0 where
  pub ascending : IsTrue (pairs_ascend ng)
  pub pairs_named : All (λ c. c.pair < MOST_PAIRS) ng

-- numbers of columns or constraints that ascend strictly, each with a narrow number that is not zero
pub record AreTerms (terms : List (ℕ × ℤ)) : Type 0 where
  pub ascending : IsTrue (ascends_by number_of terms)
  pub numbers : All (λ t. t.0 < 2 ^ 32 - 1) terms
  pub narrow : All (λ t. IsNarrow t.1 × (t.1 ≢ pos 0)) terms

pub record IsPoint (p : CertPoint) : Type 0 where
  pub positive : pos 1 ≤ℤ p.d
  pub narrow : IsNarrow p.d
  pub terms : AreTerms p.terms

abbrev pub IsLine : CertLine → Type 0
IsLine (Ray ng mult) = IsNoGood ng × AreTerms mult
IsLine (Point ng e mult) = IsNoGood ng × (pos 1 ≤ℤ e) × IsNarrow e × AreTerms mult
IsLine (Derived ng hints) = IsNoGood ng × All (λ h. h < LARGEST_WORD) hints

-- the rules of the form: where the numbers of a certificate lie, and their order
abbrev pub KeepsForm : Cert → Type 0
KeepsForm (Optimal point z lines) = IsPoint point × (unsigned_abs z ≤ 2 ^ 126) × All IsLine lines
KeepsForm (Infeasible lines) = All IsLine lines
KeepsForm (Unbounded piece point ray) = IsNoGood piece × IsPoint point × AreTerms ray
