-- Narrow numbers and their words.
use Rattle.std.proofs.Common.{ℕ, ℤ, pos, negsuc, suc, ◌<◌, ◌≤◌, ◌-◌, ◌≡◌, ◌≢◌, ◌^◌, ⊎_elim, sym, ap, ◌∙◌, subst, arith}
use Rattle.std.specs.Int.{cast_signed, cast_unsigned}
use Rattle.std.proofs.lemmas.Int.{ints, fits_signed_from_abs, of_z-to_z, to_z-of_z}
use Rattle.std.proofs.lemmas.Bool.{cases_lt}
use Rattle.std.proofs.lemmas.Int.{to_z_pos}
use Rattle.std.proofs.Math.Facts.{to_z-neg}
use mir.Syntax.{w64}
use Rattle.lp_base.specs.Numbers.{IsNarrow}
use Rattle.cuts.specs.Cuts.{IsMultiplier}

pub narrow_back : (z : ℤ) → IsNarrow z → cast_signed w64 (cast_unsigned w64 z) ≡ z
narrow_back z h = to_z-of_z w64 z (fits_signed_from_abs w64 z h)

-- each word but that of the least number is a narrow number's
pub word_narrow : (w : ℕ) → w < 2 ^ 64 → w ≢ 2 ^ 63 → IsNarrow (cast_signed w64 w)
word_narrow w h n = ⊎_elim
    (λ (lt : w < 2 ^ 63). subst IsNarrow (sym (to_z_pos w64 w lt)) (below w lt))
    (λ (ge : 2 ^ 63 ≤ w).
    let k : ℕ = 2 ^ 64 - suc w in
    let e : w ≡ 2 ^ 64 - suc k = omega (arith, h) in
    subst IsNarrow (sym (ap (cast_signed w64) e ∙ to_z-neg w64 k (omega (arith, h, ge)))) (above k (omega (arith, h, ge, n))))
    (cases_lt w (2 ^ 63))
  where
    below : (n : ℕ) → n < 2 ^ 63 → IsNarrow (pos n)
    below n h = omega (arith, ints)

    above : (n : ℕ) → suc n < 2 ^ 63 → IsNarrow (negsuc n)
    above n h = omega (arith, ints)

pub word_nonzero : (w : ℕ) → w < 2 ^ 64 → w ≢ 0 → cast_signed w64 w ≢ pos 0
word_nonzero w h n e = n (sym (of_z-to_z w64 w h) ∙ ap (cast_unsigned w64) e)

pub word_multiplier : (w : ℕ) → (w < 2 ^ 64) × (w ≢ 2 ^ 63) → w ≢ 0 → IsMultiplier (cast_signed w64 w)
word_multiplier w h n = (word_narrow w h.0 h.1, word_nonzero w h.0 n)

pub nonzero_word : (z : ℤ) → IsNarrow z → z ≢ pos 0 → cast_unsigned w64 z ≢ 0
nonzero_word z h n e = n (sym (narrow_back z h) ∙ ap (cast_signed w64) e)

pub narrow_word : (z : ℤ) → IsNarrow z → (cast_unsigned w64 z < 2 ^ 64) × (cast_unsigned w64 z ≢ 2 ^ 63)
narrow_word z h = (omega (arith, ints), λ e. least z h (sym (narrow_back z h) ∙ ap (cast_signed w64) e))
  where
    least : (z : ℤ) → IsNarrow z → z ≢ cast_signed w64 (2 ^ 63)
    least z h e = absurd (omega (arith, ints, h, e))
