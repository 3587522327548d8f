-- The no-goods of a certificate, one after another.
use Rattle.std.specs.Prelude.{◌≡◌, ◌<◌, ℕ, ℤ, pos, List, Option, Some, None, length, map, slice_get, take}
use Rattle.lpcc_case.specs.Instance.{Instance}
use Rattle.lpcc_case.specs.Points.{Point, cost_at}
use Rattle.cert_text.specs.declared.cert.CertLine.{CertLine}
use Rattle.cert_text.specs.Certs.{no_good_of}
use Rattle.cert_check.specs.declared.accept.NoWhy.{NoWhy}
use Rattle.cert_check.specs.Acceptance.{NoGoodFails}

-- the value that a best point claims: its cost times its denominator, and the denominator
abbrev pub claimed_by : (a : Instance) → Option (Point a.columns) → Option (ℤ × ℤ)
claimed_by a None = None
claimed_by a (Some p) = Some (cost_at a p, pos p.d)

-- none of the first n lines fails over the no-goods of the lines before it
abbrev pub FirstPass : Instance → Option (ℤ × ℤ) → List CertLine → ℕ → Type 0
FirstPass a value lines n =
    (k : ℕ) (line : CertLine) (why : NoWhy) → k < n → slice_get lines k ≡ Some line → NoGoodFails a value (map no_good_of (take k lines)) line why → ⊥

-- no line fails over the no-goods of the lines before it
abbrev pub NoGoodsPass : Instance → Option (ℤ × ℤ) → List CertLine → Type 0
NoGoodsPass a value lines = FirstPass a value lines (length lines)
