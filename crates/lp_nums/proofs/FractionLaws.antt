-- Laws of fractions in lowest terms.
use Rattle.std.proofs.Common.{ℕ, zero, suc, ◌*◌, ◌/◌, ◌%◌, ◌<◌, ◌≡◌, refl, sym, ap, subst, ◌∙◌, arith, ℤ, pos, negsuc, ◌+ℤ◌, ◌*ℤ◌, ◌≤ℤ◌, ◌<ℤ◌, to_z, of_z, FitsSigned}
use Prim.Native.Nat.{◌∣◌}
use Rattle.std.specs.Prelude.{unsigned_abs, neg_ℤ, int_div, int_rem}
use Rattle.std.specs.Int.{IsGcd}
use mir.Syntax.{w128}
use Rattle.std.proofs.lemmas.Int.{ints, unsigned_abs-mul, quot-rem, quot_is, quot_fits, to_z-of_z, by_lt_z}
use Rattle.std.proofs.lemmas.Nat.Gcd.{dvd_refl, dvd_trans, mod-eq-zero_of_dvd, IsGcd-from_zero, IsGcd-from_mod}
use Rattle.std.proofs.Math.Nat.{one-dvd, mul-dvd-mul_left, mul-dvd-mul_right, dvd_of_mul-dvd-mul_left, dvd_of_mul-dvd-mul_right, dvd-mul_left, dvd-mul_right, dvd_antisymm, pos_of_dvd_of_pos, mul-div_cancel'}
use Rattle.lp_base.proofs.Ring.{mul_add_right, mul_assoc, mul_comm, mul_le_right}
use Rattle.lp_nums.specs.Fractions.{Fraction, IsReduced, SameValue}

-- ---- division by a divisor

no_rest : (n g : ℤ) → unsigned_abs g ∣ unsigned_abs n → int_rem n g ≡ pos 0
no_rest (pos a) g h = ap pos (mod-eq-zero_of_dvd (unsigned_abs g) h)
no_rest (negsuc a) g h = ap (λ m. neg_ℤ (pos m)) (mod-eq-zero_of_dvd (unsigned_abs g) h)

pub exact : (n g : ℤ) → unsigned_abs g ∣ unsigned_abs n → int_div n g *ℤ g ≡ n
exact n g h = omega (arith, ints, quot-rem n g, no_rest n g h)

pub divided : (n g : ℤ) → FitsSigned w128 n → FitsSigned w128 g → pos 1 ≤ℤ g → unsigned_abs g ∣ unsigned_abs n → to_z w128 (of_z w128 (int_div (to_z w128 (of_z w128 n)) (to_z w128 (of_z w128 g)))) *ℤ g ≡ n
divided n g fn fg some h = ap (λ q. q *ℤ g) (quot_is w128 n g fn fg (quot_fits w128 n g fn (omega (arith, ints)))) ∙ exact n g h

-- ---- lowest terms

-- what is left of two numbers behind their greatest common divisor has none past 1
IsGcd-one : (a b g : ℕ) → 0 < g → IsGcd (a * g) (b * g) g → IsGcd a b 1
IsGcd-one a b g some h = (
  one-dvd a,
  one-dvd b,
  λ d p q. let e : d * g ∣ 1 * g = subst (λ n. d * g ∣ n) (omega arith) (h.2 (d * g) (mul-dvd-mul_right d p g) (mul-dvd-mul_right d q g)) in
      dvd_of_mul-dvd-mul_right d some e,
)

positive_factor : (b g d : ℤ) → pos 0 ≤ℤ g → pos 1 ≤ℤ d → b *ℤ g ≡ d → (pos 1 ≤ℤ b) × (0 < unsigned_abs g)
positive_factor (pos zero) (pos g) d hg hd e = absurd (omega (arith, ints))
positive_factor (pos (suc b)) (pos zero) d hg hd e = absurd (omega (arith, ints))
positive_factor (pos (suc b)) (pos (suc g)) d hg hd e = (omega (arith, ints), omega arith)
positive_factor (negsuc b) (pos zero) d hg hd e = absurd (omega (arith, ints))
positive_factor (negsuc b) (pos (suc g)) d hg hd e = absurd (omega (arith, ints))
positive_factor b (negsuc g) d hg hd e = absurd (omega (arith, ints))

pub reduced_parts : (n d a b g : ℤ) → pos 1 ≤ℤ d → pos 0 ≤ℤ g → IsGcd (unsigned_abs n) (unsigned_abs d) (unsigned_abs g) → a *ℤ g ≡ n → b *ℤ g ≡ d → IsReduced (record { num = a; den = b }) × SameValue (record { num = a; den = b }) (record { num = n; den = d })
reduced_parts n d a b g hd hg h ea eb =
    let some = positive_factor b g d hg hd eb in
    let sa : unsigned_abs n ≡ unsigned_abs a * unsigned_abs g = ap unsigned_abs (sym ea) ∙ unsigned_abs-mul a g in
    let sb : unsigned_abs d ≡ unsigned_abs b * unsigned_abs g = ap unsigned_abs (sym eb) ∙ unsigned_abs-mul b g in
    let shared : IsGcd (unsigned_abs a * unsigned_abs g) (unsigned_abs b * unsigned_abs g) (unsigned_abs g) = subst (λ m. IsGcd m (unsigned_abs b * unsigned_abs g) (unsigned_abs g)) sa (subst (λ m. IsGcd (unsigned_abs n) m (unsigned_abs g)) sb h) in (
      record { positive = some.0; lowest = IsGcd-one (unsigned_abs a) (unsigned_abs b) (unsigned_abs g) some.1 shared },
      ap (λ x. a *ℤ x) (sym eb ∙ mul_comm b g) ∙ sym (mul_assoc a g b) ∙ ap (λ x. x *ℤ b) ea,
    )

-- a whole number over 1
pub reduced_whole : (n : ℤ) → FitsSigned w128 n → IsReduced (record { num = to_z w128 (of_z w128 n); den = pos 1 })
reduced_whole n f = record {
  positive = omega (arith, ints);
  lowest = (one-dvd (unsigned_abs (to_z w128 (of_z w128 n))), dvd_refl 1, λ d p q. q);
}

-- ---- lowest terms are unique

-- there is a greatest common divisor
some_gcd : (fuel a b : ℕ) → b < fuel → (h : ℕ) × IsGcd a b h
some_gcd zero a b l = absurd (omega arith)
some_gcd (suc fuel) a zero l = (a, IsGcd-from_zero a zero refl)
some_gcd (suc fuel) a (suc b) l =
    let rest = some_gcd fuel (suc b) (a % suc b) (omega arith) in
    (rest.0, IsGcd-from_mod a (suc b) rest.0 rest.1)

-- a common factor of two numbers is one of their greatest common divisor
scaled : (c a b g d : ℕ) → 0 < c → IsGcd a b g → d ∣ c * a → d ∣ c * b → d ∣ c * g
scaled c a b g d some h p q =
    let k = some_gcd (suc (c * b)) (c * a) (c * b) (omega arith) in
    let shared : c ∣ k.0 = k.1.2 c (dvd-mul_right c a) (dvd-mul_right c b) in
    let part : c * (k.0 / c) ≡ k.0 = mul-div_cancel' c shared in
    let first : c * (k.0 / c) ∣ c * a = subst (λ n. n ∣ c * a) (sym part) k.1.0 in
    let second : c * (k.0 / c) ∣ c * b = subst (λ n. n ∣ c * b) (sym part) k.1.1 in
    let within : k.0 / c ∣ g = h.2 (k.0 / c) (dvd_of_mul-dvd-mul_left (k.0 / c) some first) (dvd_of_mul-dvd-mul_left (k.0 / c) some second) in
    dvd_trans d (k.1.2 d p q) (subst (λ n. n ∣ c * g) part (mul-dvd-mul_left (k.0 / c) c within))

-- equal cross products of lowest terms: the first denominator divides the second
den_divides : (n d m e : ℕ) → 0 < e → IsGcd n d 1 → n * e ≡ m * d → d ∣ e
den_divides n d m e some h cross =
    let p : d ∣ e * n = subst (λ x. d ∣ x) (omega arith) (dvd-mul_left d m) in
    subst (λ x. d ∣ x) (omega arith) (scaled e n d 1 d some h p (dvd-mul_left d e))

same_factor : (a b : ℤ) (d : ℕ) → 0 < d → a *ℤ pos d ≡ b *ℤ pos d → a ≡ b
same_factor a b d some e =
    let more : (x y : ℤ) → x <ℤ y → (x *ℤ pos d) <ℤ (y *ℤ pos d) = λ x y l.
    let next : (x +ℤ pos 1) ≤ℤ y = omega (arith, ints) in
    omega (arith, ints, mul_add_right (pos d) x (pos 1), mul_le_right d (x +ℤ pos 1) y next) in
    by_lt_z a b (λ l. absurd (omega (arith, ints, more a b l, e)))
    (λ l. by_lt_z b a (λ k. absurd (omega (arith, ints, more b a k, e))) (λ k. omega (arith, ints)))

pub same_by : (a b d : ℤ) → pos 1 ≤ℤ d → a *ℤ d ≡ b *ℤ d → a ≡ b
same_by a b (pos d) p e = same_factor a b d (omega (arith, ints)) e
same_by a b (negsuc d) p e = absurd (omega (arith, ints))

one_den : (d e : ℤ) → pos 1 ≤ℤ d → pos 1 ≤ℤ e → unsigned_abs d ≡ unsigned_abs e → d ≡ e
one_den (pos d) (pos e) p q h = ap pos h
one_den (negsuc d) e p q h = absurd (omega (arith, ints))
one_den (pos d) (negsuc e) p q h = absurd (omega (arith, ints))

sizes_cross : (n d m e : ℤ) → n *ℤ e ≡ m *ℤ d → unsigned_abs n * unsigned_abs e ≡ unsigned_abs m * unsigned_abs d
sizes_cross n d m e h = sym (unsigned_abs-mul n e) ∙ ap unsigned_abs h ∙ unsigned_abs-mul m d

pub unique : (f g : Fraction) → IsReduced f → IsReduced g → SameValue f g → f ≡ g
unique f g p q h =
    let cross = sizes_cross f.num f.den g.num g.den h in
    let one : unsigned_abs f.den ∣ unsigned_abs g.den = den_divides (unsigned_abs f.num) (unsigned_abs f.den) (unsigned_abs g.num) (unsigned_abs g.den) (omega (arith, ints, p.positive, q.positive)) p.lowest cross in
    let two : unsigned_abs g.den ∣ unsigned_abs f.den = den_divides (unsigned_abs g.num) (unsigned_abs g.den) (unsigned_abs f.num) (unsigned_abs f.den) (omega (arith, ints, p.positive, q.positive)) q.lowest (sym cross) in
    let dens : f.den ≡ g.den = one_den f.den g.den p.positive q.positive (dvd_antisymm one two) in
    let nums : f.num ≡ g.num = same_by f.num g.num g.den q.positive (h ∙ ap (λ d. g.num *ℤ d) dens) in
    λ i. record { num = nums i; den = dens i }

-- ---- the same with each number read again, as the code hands it on

pub positive_divisor : (n d g : ℤ) → FitsSigned w128 n → FitsSigned w128 d → FitsSigned w128 g → pos 1 ≤ℤ d → pos 0 ≤ℤ g → IsGcd (unsigned_abs (to_z w128 (of_z w128 n))) (unsigned_abs (to_z w128 (of_z w128 d))) (unsigned_abs g) → pos 1 ≤ℤ to_z w128 (of_z w128 g)
positive_divisor n d g fn fd fg hd hg h =
    let e = to_z-of_z w128 d fd in
    let some : 0 < unsigned_abs g = pos_of_dvd_of_pos h.1 (omega (arith, ints)) in
    omega (arith, ints)

pub divides_read : (n g : ℤ) → FitsSigned w128 g → unsigned_abs g ∣ unsigned_abs (to_z w128 (of_z w128 n)) → unsigned_abs (to_z w128 (of_z w128 g)) ∣ unsigned_abs (to_z w128 (of_z w128 n))
divides_read n g fg h = subst (λ z. unsigned_abs z ∣ unsigned_abs (to_z w128 (of_z w128 n))) (sym (to_z-of_z w128 g fg)) h

pub reduced_read : (n d a b g : ℤ) → FitsSigned w128 n → FitsSigned w128 d → FitsSigned w128 a → FitsSigned w128 b → FitsSigned w128 g → pos 1 ≤ℤ d → pos 0 ≤ℤ g → IsGcd (unsigned_abs (to_z w128 (of_z w128 n))) (unsigned_abs (to_z w128 (of_z w128 d))) (unsigned_abs g) → a *ℤ to_z w128 (of_z w128 g) ≡ to_z w128 (of_z w128 n) → b *ℤ to_z w128 (of_z w128 g) ≡ to_z w128 (of_z w128 d) → IsReduced (record { num = to_z w128 (of_z w128 a); den = to_z w128 (of_z w128 b) }) × SameValue (record { num = to_z w128 (of_z w128 a); den = to_z w128 (of_z w128 b) }) (record { num = n; den = d })
reduced_read n d a b g fn fd fa fb fg hd hg h ea eb =
    let h' : IsGcd (unsigned_abs n) (unsigned_abs d) (unsigned_abs g) = subst (λ z. IsGcd (unsigned_abs z) (unsigned_abs d) (unsigned_abs g)) (to_z-of_z w128 n fn) (subst (λ z. IsGcd (unsigned_abs (to_z w128 (of_z w128 n))) (unsigned_abs z) (unsigned_abs g)) (to_z-of_z w128 d fd) h) in
    let ea' : a *ℤ g ≡ n = rw (to_z-of_z w128 g fg, to_z-of_z w128 n fn) at ea in
    let eb' : b *ℤ g ≡ d = rw (to_z-of_z w128 g fg, to_z-of_z w128 d fd) at eb in
    let made = reduced_parts n d a b g hd hg h' ea' eb' in
    let P : ℤ → ℤ → Type 0 = λ x y. IsReduced (record { num = x; den = y }) × SameValue (record { num = x; den = y }) (record { num = n; den = d }) in
    subst (λ x. P x (to_z w128 (of_z w128 b))) (sym (to_z-of_z w128 a fa)) (subst (λ y. P a y) (sym (to_z-of_z w128 b fb)) made)
