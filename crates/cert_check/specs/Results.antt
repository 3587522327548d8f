-- What the parts of acceptance answer.
use Rattle.std.specs.Prelude.{◌≡◌, ◌<◌, ◌≤ℤ◌, ℕ, ℤ, pos, List, Option, Some, None, map, slice_get, take}
use Rattle.lp_base.specs.Answers.{UnlessShort}
use Rattle.lpcc_case.specs.Instance.{Instance}
use Rattle.lpcc_case.specs.Points as points
use Rattle.lpcc_case.specs.NarrowPoints.{IsPointFor, Means}
use Rattle.lpcc_case.specs.declared.point.Point.{Point}
use Rattle.cert_text.specs.declared.cert.CertPoint.{CertPoint}
use Rattle.cert_text.specs.declared.cert.CertLine.{CertLine}
use Rattle.cert_text.specs.Certs.{no_good_of}
use Rattle.cert_check.specs.declared.accept.NoWhy.{NoWhy}
use Rattle.cert_check.specs.declared.accept.CheckFault.{CheckFault}
use Rattle.cert_check.specs.Acceptance.{GivesMet, NoGoodFails, found_by}
use Rattle.cert_check.specs.Barring.{FirstPass, NoGoodsPass}

-- there is no reason to fail, or this is one
abbrev pub Finds : (NoWhy → Type 0) → Option NoWhy → Type 0
Finds Fails None = (why : NoWhy) → Fails why → ⊥
Finds Fails (Some why) = Fails why

-- no line fails, or the line at this place fails for this reason and none before it fails
abbrev pub FindsFirst : Instance → Option (ℤ × ℤ) → List CertLine → Option (ℕ × NoWhy) → Type 0
FindsFirst a value lines None = NoGoodsPass a value lines
FindsFirst a value lines (Some found) =
    ((line : CertLine) × (slice_get lines found.0 ≡ Some line) × NoGoodFails a value (map no_good_of (take found.0 lines)) line found.1)
    × FirstPass a value lines found.0

-- the line that is named fails for this reason, and none before it fails, unless memory is short
abbrev pub NamesFirst : (ℕ → NoWhy → Type 0) → CheckFault → Type 0
NamesFirst Fails fault = UnlessShort found_by (λ found. Fails found.0 found.1 × ((m : ℕ) (other : NoWhy) → m < found.0 → Fails m other → ⊥)) fault

-- the denominator of a value is at least 1
abbrev pub IsOverPositive : Option (ℤ × ℤ) → Type 0
IsOverPositive None = Unit {0}
IsOverPositive (Some value) = pos 1 ≤ℤ value.1

-- the point of a line that meets all constraints, with this z
pub record IsPointOfLine (a : Instance) (line : CertPoint) (z : ℤ) (q : Point) : Type 0 where
  pub fits : IsPointFor a q
  pub given : (p : points.Point a.columns) × GivesMet a line p
  pub means : (p : points.Point a.columns) → GivesMet a line p → Means q p
  pub denominator : q.d ≡ line.d
  pub value : q.z ≡ z
