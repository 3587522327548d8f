-- Numbers that the code reads again.
use Rattle.std.proofs.Common.{ℕ, suc, ◌+◌, ◌*◌, ◌/◌, ◌^◌, ◌<◌, ◌≤◌, ◌≡◌, ◌∙◌, sym, ap, subst, arith, ℤ, pos, negsuc, ◌-ℤ◌, ◌*ℤ◌, ◌<ℤ◌, ◌≤ℤ◌, neg_ℤ, to_z, of_z, FitsSigned}
use mir.Syntax.{w64, w128}
use Prim.Native.Nat.{◌∣◌}
use Rattle.std.specs.Prelude.{unsigned_abs}
use Rattle.std.specs.Int.{IsGcd}
use Rattle.std.proofs.lemmas.Int.{ints, to_z-of_z}
use Rattle.std.proofs.Math.Nat.{div-mul_cancel, div-add-mod, mod-lt, mul-le-mul_right}
use Rattle.lp_base.specs.Numbers.{IsNarrow}
use Rattle.lp_base.proofs.Machine.{narrow_again}
use Rattle.dict.proofs.Enters.{neg_times}
use Rattle.dict.proofs.Pivots.{by_lt}

pub number_again : (z y : ℤ) → IsNarrow z → z ≡ y → to_z w64 (of_z w64 z) ≡ y
number_again z y h e = narrow_again z h ∙ e

narrow_negated : (r : ℤ) → IsNarrow r → IsNarrow (pos 0 -ℤ r)
narrow_negated r h = omega (arith, ints, h)

pub negated_again : (r e s : ℤ) → IsNarrow r → r ≡ e → s ≡ neg_ℤ e → to_z w64 (of_z w64 (pos 0 -ℤ to_z w64 (of_z w64 r))) ≡ s
negated_again r e s h is negated =
    let back : to_z w64 (of_z w64 (pos 0 -ℤ to_z w64 (of_z w64 r))) ≡ to_z w64 (of_z w64 (pos 0 -ℤ r)) = ap (λ z. to_z w64 (of_z w64 (pos 0 -ℤ z))) (narrow_again r h) in
    back ∙ narrow_again (pos 0 -ℤ r) (narrow_negated r h) ∙ omega (arith, ints, is, negated)

-- the greatest common divisor of two sizes
pub gcd_read : (a b m : ℕ) (r : ℤ) → a < 2 ^ 127 → b < 2 ^ 127 → FitsSigned w128 r → IsGcd (unsigned_abs (to_z w128 a)) (unsigned_abs (to_z w128 b)) (unsigned_abs r) → m ≡ unsigned_abs (to_z w128 (of_z w128 r)) → IsGcd a b m
gcd_read a b m r ha hb fits is e =
    let ea : unsigned_abs (to_z w128 a) ≡ a = omega (arith, ints) in
    let eb : unsigned_abs (to_z w128 b) ≡ b = omega (arith, ints) in
    let em : m ≡ unsigned_abs r = e ∙ ap unsigned_abs (to_z-of_z w128 r fits) in
    subst (λ (n : ℕ). IsGcd a b n) (sym em) (subst (λ (n : ℕ). IsGcd n b (unsigned_abs r)) ea (subst (λ (n : ℕ). IsGcd (unsigned_abs (to_z w128 a)) n (unsigned_abs r)) eb is))

-- quotients
pub quotient_positive : (b g : ℕ) → 0 < b → g ∣ b → 0 < b / g
quotient_positive b g hb h =
    by_lt 0 (b / g) (λ lt. lt)
    (λ ge.
    let z : b / g ≡ 0 = omega (arith, ge) in
    absurd (omega (arith, hb, sym (ap (λ n. n * g) z) ∙ div-mul_cancel g h)))

pub past_quotient : (m r a : ℕ) → 0 < r → m / r < a → m < a * r
past_quotient m r a hr h =
    let le : (m / r + 1) * r ≤ a * r = mul-le-mul_right r (omega (arith, h)) in
    omega (arith, le, div-add-mod m r, mod-lt m hr)

-- the quotients of a numerator and a denominator
pub sizes_over : (p q g d : ℕ) → g ∣ p → q ∣ d → ((p / g * (d / q)) * g) * q ≡ p * d
sizes_over p q g d hp hd =
    let ep : p / g * g ≡ p = div-mul_cancel g hp in
    let ed : d / q * q ≡ d = div-mul_cancel q hd in
    omega (arith, ap (λ n. n * (d / q * q)) ep, ap (λ n. p * n) ed)

pub wide_over : (p q g d : ℕ) → g ∣ p → q ∣ d → 2 ^ 63 ≤ p / g * (d / q) → 2 ^ 63 * (g * q) ≤ p * d
wide_over p q g d hp hd h =
    let m : 2 ^ 63 * (g * q) ≤ p / g * (d / q) * (g * q) = mul-le-mul_right (g * q) h in
    omega (arith, m, sizes_over p q g d hp hd)

pub number_above : (num : ℤ) (s g q d : ℕ) → pos 0 ≤ℤ num → (s * g) * q ≡ unsigned_abs num * d → (pos s *ℤ pos g) *ℤ pos q ≡ num *ℤ pos d
number_above (pos n) s g q d h e = ap pos e
number_above (negsuc n) s g q d h e = absurd (omega (arith, ints))

pub number_below : (num : ℤ) (s g q d : ℕ) → num <ℤ pos 0 → (s * g) * q ≡ unsigned_abs num * d → (neg_ℤ (pos s) *ℤ pos g) *ℤ pos q ≡ num *ℤ pos d
number_below (pos n) s g q d h e = absurd (omega (arith, ints))
number_below (negsuc n) s g q d h e =
    let a : (neg_ℤ (pos s) *ℤ pos g) *ℤ pos q ≡ neg_ℤ ((pos s *ℤ pos g) *ℤ pos q) = ap (λ z. z *ℤ pos q) (neg_times (pos s) (pos g)) ∙ neg_times (pos s *ℤ pos g) (pos q) in
    let b : negsuc n *ℤ pos d ≡ neg_ℤ (pos (suc n) *ℤ pos d) = neg_times (pos (suc n)) (pos d) in
    a ∙ ap (λ m. neg_ℤ (pos m)) e ∙ sym b

-- the size of a number that is read again
pub size_read : (m : ℕ) (v z : ℤ) → FitsSigned w128 v → m ≡ unsigned_abs (to_z w128 (of_z w128 v)) → v ≡ z → m ≡ unsigned_abs z
size_read m v z fits e same = e ∙ ap unsigned_abs (to_z-of_z w128 v fits ∙ same)
