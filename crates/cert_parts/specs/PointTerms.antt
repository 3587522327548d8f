-- Points and rays by their numbers that are not zero.
use Rattle.std.specs.Prelude.{◌+◌, ℕ, ℤ, nat_eq, unsigned_abs, if◌then◌else◌, List, [], ◌∷◌}
use Rattle.lpcc_case.specs.declared.point.Point.{Point}
use Rattle.cert_text.specs.declared.cert.CertPoint.{CertPoint}

abbrev pub with_term : ℕ → ℤ → List (ℕ × ℤ) → List (ℕ × ℤ)
with_term i z terms = if nat_eq (unsigned_abs z) 0 then terms else (i, z) ∷ terms

-- each number that is not zero, with its place, the first being i
abbrev pub terms_from : ℕ → List ℤ → List (ℕ × ℤ)
terms_from i [] = []
terms_from i (z ∷ zs) = with_term i z (terms_from (i + 1) zs)

abbrev pub cert_point : Point → CertPoint
cert_point q = record { d = q.d; terms = terms_from 0 q.x }
