-- What the code's operations on 64 and 128 bits give, where they fit.
use Rattle.std.proofs.Common.{◌^◌, ◌≤◌, ◌<◌, ◌≡◌, ◌∙◌, sym, ap, arith, ℤ, to_z, of_z, FitsSigned}
use Rattle.std.proofs.lemmas.Int.{ints, to_z-of_z, fits_signed_from_abs}
use Rattle.std.specs.Prelude.{unsigned_abs}
use mir.Syntax.{w64, w128}
use Rattle.lp_base.specs.Numbers.{IsNarrow}

-- a number that is read again is itself
pub again : (z : ℤ) → unsigned_abs z < 2 ^ 127 → to_z w128 (of_z w128 z) ≡ z
again z h = to_z-of_z w128 z (fits_signed_from_abs w128 z h)

pub again_64 : (b : ℤ) → FitsSigned w64 b → to_z w64 (of_z w64 b) ≡ b
again_64 b f = to_z-of_z w64 b f

pub size_64 : (b : ℤ) → FitsSigned w64 b → unsigned_abs b ≤ 2 ^ 63
size_64 b f = omega (arith, ints)

pub again_small : (z : ℤ) → unsigned_abs z < 2 ^ 126 → unsigned_abs (to_z w128 (of_z w128 z)) < 2 ^ 126
again_small z h = rw (again z (omega arith)) h

pub narrow_again : (y : ℤ) → IsNarrow y → to_z w64 (of_z w64 y) ≡ y
narrow_again y h = again_64 y (fits_signed_from_abs w64 y h)

-- two numbers with the same bits
pub same_bits : (s p : ℤ) → unsigned_abs s < 2 ^ 127 → unsigned_abs p < 2 ^ 127 → of_z w128 s ≡ of_z w128 p → s ≡ p
same_bits s p hs hp e = sym (again s hs) ∙ ap (to_z w128) e ∙ again p hp
