-- What the code's arithmetic on fractions gives.
use Rattle.std.proofs.Common.{ℕ, zero, suc, ◌*◌, ◌/◌, ◌^◌, ◌<◌, ◌≤◌, ◌≡◌, refl, sym, ap, subst, ◌∙◌, arith, ℤ, pos, negsuc, ◌*ℤ◌, ◌≤ℤ◌, to_z, of_z, FitsSigned, Bool, true, false, None, Some}
use Prim.Native.Nat.{◌∣◌}
use mir.Syntax.{w128}
use Rattle.std.specs.Prelude.{unsigned_abs}
use Rattle.std.specs.Int.{IsGcd}
use Rattle.std.proofs.lemmas.Bool.{cond-true, lt-ltb}
use Rattle.std.proofs.lemmas.Int.{ints, to_z-of_z, unsigned_abs-mul, fits_signed_from_abs}
use Rattle.std.proofs.Math.Nat.{mul-le-mul, mul-div_cancel', dvd-mul_left_of_dvd, dvd-mul_right}
use Rattle.lp_base.proofs.Machine.{again}
use Rattle.lp_base.proofs.Ring.{abs_mul, mul_assoc}
use Rattle.lp_nums.proofs.FractionLaws.{exact, same_by}
use Rattle.lp_nums.specs.Fractions.{Fraction}
use Rattle.deck_case.specs.Multipliers.{times}
use Rattle.deck_case.specs.Wide.{is_wide}
use Rattle.deck_case.specs.Steps.{IsLcm, far_end, narrow}
use Rattle.deck_case.proofs.Multiples.{lcm_from_gcd}

-- ---- the greatest common divisor

pub divisor_read : (a b m n : ℕ) (g : ℤ) → m ≡ a → n ≡ b → FitsSigned w128 g → IsGcd m n (unsigned_abs g) → IsGcd a b (unsigned_abs (to_z w128 (of_z w128 g)))
divisor_read a b m n g e f fits h =
    subst (λ z. IsGcd a b (unsigned_abs z)) (sym (to_z-of_z w128 g fits)) (subst (λ x. IsGcd x b (unsigned_abs g)) e (subst (λ y. IsGcd m y (unsigned_abs g)) f h))

-- the quotient by the divisor times the other number is the least common multiple
pub common_is : (a b g : ℕ) → 0 < a → IsGcd a b g → IsLcm a b (a / g * b)
common_is a b g some h =
    let part : g * (a / g) ≡ a = mul-div_cancel' g h.0 in
    lcm_from_gcd a b g (a / g) some h (omega arith)

-- ---- a number times a multiplier

-- the whole number that it is
pub times_is : (m : ℕ) (f : Fraction) (w : ℤ) → pos 1 ≤ℤ f.den → w *ℤ f.den ≡ f.num *ℤ pos m → times m f ≡ w
times_is m f w some e =
    let size : unsigned_abs (f.num *ℤ pos m) ≡ unsigned_abs w * unsigned_abs f.den = ap unsigned_abs (sym e) ∙ unsigned_abs-mul w f.den in
    let divides : unsigned_abs f.den ∣ unsigned_abs (f.num *ℤ pos m) = subst (λ n. unsigned_abs f.den ∣ n) (sym size) (dvd-mul_left_of_dvd (unsigned_abs f.den) (own_divisor (unsigned_abs f.den)) (unsigned_abs w)) in
    same_by (times m f) w f.den some (exact (f.num *ℤ pos m) f.den divides ∙ sym e)
  where
    own_divisor : (n : ℕ) → n ∣ n
    own_divisor n = subst (λ k. n ∣ k) (omega arith) (dvd-mul_right n 1)

pub positive_den : (d : ℤ) → pos 1 ≤ℤ d → d ≡ pos (unsigned_abs d)
positive_den (pos d) h = refl
positive_den (negsuc d) h = absurd (omega (arith, ints))

-- times the quotient of the multiplier by the denominator
pub times_by_quotient : (m : ℕ) (f : Fraction) → pos 1 ≤ℤ f.den → unsigned_abs f.den ∣ m → times m f ≡ f.num *ℤ pos (m / unsigned_abs f.den)
times_by_quotient m f some h =
    let d = unsigned_abs f.den in
    let part : d * (m / d) ≡ m = mul-div_cancel' d h in
    let whole : pos (m / d) *ℤ pos d ≡ pos m = omega (arith, ints, part) in
    times_is m f (f.num *ℤ pos (m / d)) some
    (ap (λ z. (f.num *ℤ pos (m / d)) *ℤ z) (positive_den f.den some) ∙ mul_assoc f.num (pos (m / d)) (pos d) ∙ ap (λ z. f.num *ℤ z) whole)

-- m times f, times the denominator, is the numerator times m
pub times_whole : (m : ℕ) (f : Fraction) → pos 1 ≤ℤ f.den → unsigned_abs f.den ∣ m → times m f *ℤ f.den ≡ f.num *ℤ pos m
times_whole m f some h =
    let size : unsigned_abs (f.num *ℤ pos m) ≡ unsigned_abs f.num * m = unsigned_abs-mul f.num (pos m) in
    exact (f.num *ℤ pos m) f.den (subst (λ n. unsigned_abs f.den ∣ n) (sym size) (dvd-mul_left_of_dvd (unsigned_abs f.den) h (unsigned_abs f.num)))

-- it is no less in size than the numerator
pub times_size : (m : ℕ) (f : Fraction) → 0 < m → pos 1 ≤ℤ f.den → unsigned_abs f.den ∣ m → unsigned_abs f.num ≤ unsigned_abs (times m f)
times_size m f some positive h =
    let d = unsigned_abs f.den in
    let part : d * (m / d) ≡ m = mul-div_cancel' d h in
    let size : unsigned_abs (times m f) ≡ unsigned_abs f.num * (m / d) = ap unsigned_abs (times_by_quotient m f positive h) ∙ unsigned_abs-mul f.num (pos (m / d)) in
    let least : 1 ≤ m / d = factor_positive d (m / d) m some part in
    let same : unsigned_abs f.num ≤ unsigned_abs f.num = omega arith in
    let more : unsigned_abs f.num * 1 ≤ unsigned_abs f.num * (m / d) = mul-le-mul same least in
    omega (arith, size, more)
  where
    factor_positive : (a b n : ℕ) → 0 < n → a * b ≡ n → 1 ≤ b
    factor_positive a zero n h e = absurd (omega arith)
    factor_positive a (suc b) n h e = omega arith

pub common_read : (a b g q m : ℕ) → 0 < a → IsGcd a b g → q ≡ a / g → m ≡ b → IsLcm a b (q * m)
common_read a b g q m some h e f = subst (IsLcm a b) (sym (ap (λ n. n * m) e ∙ ap (λ n. a / g * n) f)) (common_is a b g some h)

-- ---- products

quotient_size : (m d : ℕ) → 0 < d → d ∣ m → m / d ≤ m
quotient_size m d some h =
    let part : d * (m / d) ≡ m = mul-div_cancel' d h in
    let same : m / d ≤ m / d = omega arith in
    let more : 1 * (m / d) ≤ d * (m / d) = mul-le-mul some same in
    omega (arith, part, more)

product_size : (a : ℤ) (m d : ℕ) → unsigned_abs a ≤ 2 ^ 53 → m ≤ 2 ^ 52 → 0 < d → d ∣ m → unsigned_abs (a *ℤ pos (m / d)) ≤ 2 ^ 105
product_size a m d h k some divides =
    let q : m / d ≤ 2 ^ 52 = omega (arith, quotient_size m d some divides) in
    let p : unsigned_abs (a *ℤ pos (m / d)) ≤ 2 ^ 53 * 2 ^ 52 = abs_mul a (pos (m / d)) (2 ^ 53) (2 ^ 52) h q in
    omega (arith, p)

den_size : (f : Fraction) → pos 1 ≤ℤ f.den → 0 < unsigned_abs f.den
den_size f h = omega (arith, ints, h)

-- the product as the code has it
pub record IsTimes (m : ℕ) (f : Fraction) (z : ℤ) : Type 0 where
  pub fits : FitsSigned w128 z
  pub value : to_z w128 (of_z w128 z) ≡ times m f
  pub room : unsigned_abs (to_z w128 (of_z w128 z)) ≤ 2 ^ 105

plain_times : (m : ℕ) (f : Fraction) → pos 1 ≤ℤ f.den → unsigned_abs f.den ∣ m → m ≤ 2 ^ 52 → unsigned_abs f.num ≤ 2 ^ 53 → IsTimes m f (f.num *ℤ pos (m / unsigned_abs f.den))
plain_times m f some divides small h =
    let size = product_size f.num m (unsigned_abs f.den) h small (den_size f some) divides in
    let reads = again (f.num *ℤ pos (m / unsigned_abs f.den)) (omega (arith, size)) in record {
      fits = fits_signed_from_abs w128 (f.num *ℤ pos (m / unsigned_abs f.den)) (omega (arith, size));
      value = reads ∙ sym (times_by_quotient m f some divides);
      room = subst (λ z. unsigned_abs z ≤ 2 ^ 105) (sym reads) size;
    }

pub times_read : (m d : ℕ) (f : Fraction) (num q : ℤ) → num ≡ f.num → q ≡ pos (m / d) → d ≡ unsigned_abs f.den → pos 1 ≤ℤ f.den → unsigned_abs f.den ∣ m → m ≤ 2 ^ 52 → unsigned_abs f.num ≤ 2 ^ 53 → IsTimes m f (to_z w128 (of_z w128 num) *ℤ to_z w128 (of_z w128 q))
times_read m d f num q en eq ed some divides small h =
    let quotient : q ≡ pos (m / unsigned_abs f.den) = eq ∙ ap (λ n. pos (m / n)) ed in
    let bound = quotient_size m (unsigned_abs f.den) (den_size f some) divides in
    let left : f.num ≡ to_z w128 (of_z w128 num) = sym en ∙ sym (again num (omega (arith, ap unsigned_abs en))) in
    let right : pos (m / unsigned_abs f.den) ≡ to_z w128 (of_z w128 q) = sym quotient ∙ sym (again q (omega (arith, bound, ap unsigned_abs quotient))) in
    subst (λ z. IsTimes m f (z *ℤ to_z w128 (of_z w128 q))) left (subst (λ z. IsTimes m f (f.num *ℤ z)) right (plain_times m f some divides small h))

-- ---- numbers that are too wide

pub narrow_wide : (z : ℤ) → 2 ^ 52 < unsigned_abs z → narrow z ≡ None
narrow_wide z h = cond-true (is_wide z) None (Some z) (lt-ltb (2 ^ 52) (unsigned_abs z) h)

-- a numerator past the width
pub times_wide : (m n : ℕ) (f : Fraction) (num : ℤ) → 0 < m → pos 1 ≤ℤ f.den → unsigned_abs f.den ∣ m → num ≡ f.num → FitsSigned w128 num → n ≡ unsigned_abs (to_z w128 (of_z w128 num)) → n ≤ unsigned_abs (times m f)
times_wide m n f num some positive divides e fits h =
    let size = times_size m f some positive divides in
    omega (arith, size, h ∙ ap unsigned_abs (to_z-of_z w128 num fits) ∙ ap unsigned_abs e)

pub far_wide : (near span : ℤ) (down : Bool) → unsigned_abs near ≤ 2 ^ 52 → 2 ^ 53 < unsigned_abs span → 2 ^ 52 < unsigned_abs (far_end near down span)
far_wide near span true h k = omega (arith, ints)
far_wide near span false h k = omega (arith, ints)
