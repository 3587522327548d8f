-- Laws of the greatest common divisor: factors of two, and numbers without them.
use Rattle.std.proofs.Common.{ℕ, zero, suc, ◌+◌, ◌-◌, ◌*◌, ◌/◌, ◌%◌, ◌^◌, ◌<◌, ◌≤◌, ◌≡◌, ◌⊎◌, inl, inr, sym, ap, subst, ◌∙◌, arith}
use Rattle.std.proofs.Common.{ℤ, to_z, of_z}
use Rattle.std.specs.Prelude.{min, unsigned_abs}
use mir.Syntax.{w128}
use Rattle.lp_base.proofs.Machine.{again}
use Prim.Native.Nat.{◌∣◌}
use Rattle.std.specs.Int.{IsGcd, bit_at}
use Rattle.std.proofs.lemmas.Bool.{cases_lt}
use Rattle.std.proofs.lemmas.Nat.{mod-pow-add, shr_split, pow-add}
use Rattle.std.proofs.lemmas.Nat.Gcd.{dvd_refl, dvd_trans, le_of_dvd, IsGcd-swap, IsGcd-from_sub, dvd_of_mod-eq-zero, mod-eq-zero_of_dvd}
use Rattle.std.proofs.Math.Nat.{dvd-mul_right, dvd-mul_left_of_dvd, dvd-sub, mul-dvd-mul_left, dvd_of_mul-dvd-mul_left, eq-zero_of_zero-dvd, pow-suc, mod-eq_of_lt, lt_of_le_of_lt}

-- an odd divisor of a double divides the half
half_of : (d q m : ℕ) → d ≡ 2 * q + 1 → d ∣ 2 * m → d ∣ m
half_of d q m odd h =
    let e : d * m - q * (2 * m) ≡ m = omega (arith, ap (λ n. n * m) odd) in
    subst (λ n. d ∣ n) e (dvd-sub d (dvd-mul_right d m) (dvd-mul_left_of_dvd d h q))

-- a divisor of an odd number is odd
odd_divisor : (d b : ℕ) → b % 2 ≡ 1 → d ∣ b → d ≡ 2 * (d / 2) + 1
odd_divisor d b odd h =
    elim (cases_lt (d % 2) 1) [
      | inl even ↦ let two : 2 ∣ b = dvd_trans 2 (dvd_of_mod-eq-zero 2 (omega arith)) h in
          absurd (omega (arith, mod-eq-zero_of_dvd 2 two))
      | inr rest ↦ omega arith
    ]

-- a factor of two of one number is none of an odd one
pub IsGcd-double_first : (a b g : ℕ) → b % 2 ≡ 1 → IsGcd a b g → IsGcd (2 * a) b g
IsGcd-double_first a b g odd h =
    (dvd-mul_left_of_dvd g h.0 2, h.1, λ d p q. h.2 d (half_of d (d / 2) a (odd_divisor d b odd q) p) q)

-- the numbers of which one is even are the doubles
halves : (d : ℕ) → (d ≡ 2 * (d / 2)) ⊎ (d ≡ 2 * (d / 2) + 1)
halves d = elim (cases_lt (d % 2) 1) [ inl even ↦ inl (omega arith) | inr odd ↦ inr (omega arith) ]

below_two : (d q a b g : ℕ) → d ≡ 2 * q → IsGcd a b g → d ∣ 2 * a → d ∣ 2 * b → d ∣ 2 * g
below_two d q a b g e h p r =
    let p' : 2 * q ∣ 2 * a = subst (λ n. n ∣ 2 * a) e p in
    let r' : 2 * q ∣ 2 * b = subst (λ n. n ∣ 2 * b) e r in
    let both : 2 * q ∣ 2 * g = mul-dvd-mul_left q 2 (h.2 q (dvd_of_mul-dvd-mul_left q (omega arith) p') (dvd_of_mul-dvd-mul_left q (omega arith) r')) in
    subst (λ n. n ∣ 2 * g) (sym e) both

pub IsGcd-double_both : (a b g : ℕ) → IsGcd a b g → IsGcd (2 * a) (2 * b) (2 * g)
IsGcd-double_both a b g h = (
  mul-dvd-mul_left g 2 h.0,
  mul-dvd-mul_left g 2 h.1,
  λ d p q. elim (halves d) [
    | inl even ↦ below_two d (d / 2) a b g even h p q
    | inr odd ↦ dvd-mul_left_of_dvd d (h.2 d (half_of d (d / 2) a odd p) (half_of d (d / 2) b odd q)) 2
  ],
)

doubled : (a k : ℕ) → 2 * (a * 2 ^ k) ≡ a * 2 ^ suc k
doubled a k = omega (arith, ap (λ n. a * n) (pow-suc 2 k))

-- the same for powers of two
pub IsGcd-shift_first : (k a b g : ℕ) → b % 2 ≡ 1 → IsGcd a b g → IsGcd (a * 2 ^ k) b g
IsGcd-shift_first zero a b g odd h =
    let e : a ≡ a * 2 ^ 0 = omega arith in
    subst (λ n. IsGcd n b g) e h
IsGcd-shift_first (suc k) a b g odd h =
    subst (λ n. IsGcd n b g) (doubled a k) (IsGcd-double_first (a * 2 ^ k) b g odd (IsGcd-shift_first k a b g odd h))

pub IsGcd-shift_both : (k a b g : ℕ) → IsGcd a b g → IsGcd (a * 2 ^ k) (b * 2 ^ k) (g * 2 ^ k)
IsGcd-shift_both zero a b g h =
    let ea : a ≡ a * 2 ^ 0 = omega arith in
    let eb : b ≡ b * 2 ^ 0 = omega arith in
    let eg : g ≡ g * 2 ^ 0 = omega arith in
    subst (λ n. IsGcd (a * 2 ^ 0) (b * 2 ^ 0) n) eg (subst (λ n. IsGcd (a * 2 ^ 0) n g) eb (subst (λ n. IsGcd n b g) ea h))
IsGcd-shift_both (suc k) a b g h =
    let twice : IsGcd (2 * (a * 2 ^ k)) (2 * (b * 2 ^ k)) (2 * (g * 2 ^ k)) = IsGcd-double_both (a * 2 ^ k) (b * 2 ^ k) (g * 2 ^ k) (IsGcd-shift_both k a b g h) in
    subst (λ n. IsGcd (a * 2 ^ suc k) (b * 2 ^ suc k) n) (doubled g k)
    (subst (λ n. IsGcd (a * 2 ^ suc k) n (2 * (g * 2 ^ k))) (doubled b k)
    (subst (λ n. IsGcd n (2 * (b * 2 ^ k)) (2 * (g * 2 ^ k))) (doubled a k) twice))

-- ---- the lowest bit that is set

-- no bit below t is set, so that 2 ^ t divides
low_zero : (t n : ℕ) → ((i : ℕ) → i < t → bit_at n i ≡ 0) → n % 2 ^ t ≡ 0
low_zero zero n h = omega arith
low_zero (suc t) n h =
    let below : n % 2 ^ t ≡ 0 = low_zero t n (λ i l. h i (omega arith)) in
    let here : n / 2 ^ t % 2 ≡ 0 = h t (omega arith) in
    let split : n % 2 ^ (1 + t) ≡ (n / 2 ^ t % 2 ^ 1) * 2 ^ t + n % 2 ^ t = mod-pow-add n 1 t in
    let e : suc t ≡ 1 + t = omega arith in
    ap (λ k. n % 2 ^ k) e ∙ omega (arith, split, below, ap (λ m. m * 2 ^ t) here)

pub shifted_back : (t n : ℕ) → ((i : ℕ) → i < t → bit_at n i ≡ 0) → n ≡ n / 2 ^ t * 2 ^ t
shifted_back t n h = omega (arith, shr_split n t, low_zero t n h)

-- ---- the steps of the code

-- the lower of two numbers and their difference have the same divisors
pub IsGcd-from_lower : (x y g : ℕ) → x < y → IsGcd (y - x) x g → IsGcd x y g
IsGcd-from_lower x y g l h = IsGcd-swap y x g (IsGcd-from_sub y x g (omega arith) h)

-- two numbers of which the first has no more factors of two
shared : (p q g i k : ℕ) → p % 2 ≡ 1 → IsGcd p q g → IsGcd (p * 2 ^ i) (q * 2 ^ (i + k)) (g * 2 ^ i)
shared p q g i k odd h =
    let e : q * 2 ^ k * 2 ^ i ≡ q * 2 ^ (i + k) = omega (arith, ap (λ n. q * n) (pow-add 2 i k)) in
    subst (λ n. IsGcd (p * 2 ^ i) n (g * 2 ^ i)) e
    (IsGcd-shift_both i p (q * 2 ^ k) g (IsGcd-swap (q * 2 ^ k) p g (IsGcd-shift_first k q p g odd (IsGcd-swap p q g h))))

pub IsGcd-from_odd_parts : (a b p q i j n g : ℕ) → a ≡ p * 2 ^ i → b ≡ q * 2 ^ j → p % 2 ≡ 1 → q % 2 ≡ 1 → n ≡ min i j → IsGcd p q g → IsGcd a b (g * 2 ^ n)
IsGcd-from_odd_parts a b p q i j n g ea eb podd qodd en h =
    elim (cases_lt i j) [
      | inl l ↦ let ej : i + (j - i) ≡ j = omega arith in
          let ei : i ≡ n = omega arith in
          subst (λ m. IsGcd a b (g * 2 ^ m)) ei
          (subst (λ m. IsGcd m b (g * 2 ^ i)) (sym ea)
          (subst (λ m. IsGcd (p * 2 ^ i) m (g * 2 ^ i)) (sym eb)
          (subst (λ m. IsGcd (p * 2 ^ i) (q * 2 ^ m) (g * 2 ^ i)) ej (shared p q g i (j - i) podd h))))
      | inr l ↦ let ei : j + (i - j) ≡ i = omega arith in
          let ej : j ≡ n = omega arith in
          subst (λ m. IsGcd a b (g * 2 ^ m)) ej
          (subst (λ m. IsGcd m b (g * 2 ^ j)) (sym ea)
          (subst (λ m. IsGcd (p * 2 ^ i) m (g * 2 ^ j)) (sym eb)
          (IsGcd-swap (q * 2 ^ j) (p * 2 ^ i) (g * 2 ^ j)
          (subst (λ m. IsGcd (q * 2 ^ j) (p * 2 ^ m) (g * 2 ^ j)) ei (shared q p g j (i - j) qodd (IsGcd-swap p q g h))))))
    ]

-- a power of two that divides a number of the width does not leave it
pub IsGcd-in_width : (a b g w : ℕ) → 0 < a → a < w → IsGcd a b g → IsGcd a b (g % w)
IsGcd-in_width a b g w some small h =
    let e : g ≡ g % w = sym (mod-eq_of_lt (lt_of_le_of_lt (le_of_dvd some h.0) small)) in
    subst (λ n. IsGcd a b n) e h

-- the divisor is below each bound of the two numbers
pub IsGcd-below : (a b g m : ℕ) → a < m → b < m → IsGcd a b g → g < m
IsGcd-below zero zero g m p q h =
    let e : g ≡ 0 = eq-zero_of_zero-dvd (h.2 0 (dvd_refl 0) (dvd_refl 0)) in
    omega arith
IsGcd-below zero (suc b) g m p q h =
    let l : g ≤ suc b = le_of_dvd (omega arith) h.1 in
    omega arith
IsGcd-below (suc a) b g m p q h =
    let l : g ≤ suc a = le_of_dvd (omega arith) h.0 in
    omega arith

pub IsGcd-of_same : (x y : ℕ) → x ≡ y → IsGcd x y x
IsGcd-of_same x y e = subst (λ n. IsGcd x n x) e (dvd_refl x, dvd_refl x, λ d p q. p)

-- from the sizes of two signed numbers to the numbers, where m and n are what the code has for the sizes
pub IsGcd-of_sizes : (a b : ℤ) (m n g : ℕ) → m ≡ unsigned_abs (to_z w128 (of_z w128 a)) → n ≡ unsigned_abs (to_z w128 (of_z w128 b)) → unsigned_abs a < 2 ^ 127 → unsigned_abs b < 2 ^ 127 → IsGcd m n g → (g < 2 ^ 127) × IsGcd (unsigned_abs a) (unsigned_abs b) g
IsGcd-of_sizes a b m n g ea eb sa sb h =
    let a_is : m ≡ unsigned_abs a = ea ∙ ap unsigned_abs (again a sa) in
    let b_is : n ≡ unsigned_abs b = eb ∙ ap unsigned_abs (again b sb) in
    let k : IsGcd (unsigned_abs a) (unsigned_abs b) g = subst (λ x. IsGcd x (unsigned_abs b) g) a_is (subst (λ y. IsGcd m y g) b_is h) in
    (IsGcd-below (unsigned_abs a) (unsigned_abs b) g (2 ^ 127) sa sb k, k)
