-- Laws of decimal texts: what a text in the right form has, and its number by its significant digits.
use Rattle.std.proofs.Common.{ℕ, zero, suc, ◌+◌, ◌*◌, ◌^◌, ◌<◌, ◌≤◌, ◌≡◌, inl, inr, refl, sym, ap, subst, ◌∙◌, arith, Bool, true, false, not, ◌&&◌, ◌||◌, cond, List, [], ◌∷◌, length, Some, None, ℤ, pos, negsuc, neg_ℤ, ◌+ℤ◌, ◌-ℤ◌, ◌*ℤ◌, ◌≤ℤ◌, ◌<ℤ◌, to_z, of_z, FitsSigned}
use Rattle.std.specs.Prelude.{filter, unsigned_abs, nat_lt, nat_eq, int_lt}
use Rattle.std.specs.List.{list_any, list_all, position_or_len, after_first}
use Rattle.std.specs.Char.{is_ascii_digit}
use Rattle.std.specs.Str.Parse.{digits_value, signed_digits_value, starts_with_minus, without_leading_sign}
use Rattle.lp_nums.specs.declared.decimals.NumberFault.TheVariants.{NumberText, NumberWide}
use Rattle.lp_nums.specs.NumberFaults.{number_fault}
use Rattle.lp_nums.proofs.DigitLaws.{below_ten_to}
use mir.Syntax.{w128}
use lib.Signed.{mag}
use Rattle.std.proofs.lemmas.Bool.{and_parts, or_parts, or_cases, not-true, lt-ltb, ltb-false}
use Rattle.std.proofs.lemmas.Int.{ints, to_z-of_z, to_z_pos, clamps, unsigned_abs-mul}
use Rattle.std.proofs.lemmas.List.{drop_all}
use Rattle.std.proofs.lemmas.Nat.{pow-add}
use Rattle.std.proofs.Math.Nat.{one-le-pow, mul-le-mul_right, mul-le-mul_left, pow-le-pow_right}
use Rattle.lp_base.proofs.Ring.{mul_assoc, mul_comm}
use Rattle.lp_base.proofs.Machine.{again}
use Rattle.lp_nums.specs.Fractions.{Fraction, SameValue}
use Rattle.lp_nums.specs.Decimals.{is_exponent_mark, has_exponent, exponent, is_decimal, is_numeral, is_mantissa, mantissa, scale, digits, last_power, power, signed, clamped, times_power_of_ten, spelled, is_wide}
use Rattle.lp_nums.specs.declared.scan.Significand.{Significand}
use Rattle.lp_nums.specs.Significands.{IsSignificand}
use Rattle.lp_nums.proofs.FractionLaws.{same_by}

-- ---- powers of ten

pub ten_small : (n : ℕ) → n ≤ 36 → 10 ^ n ≤ 10 ^ 36
ten_small n h = pow-le-pow_right (omega arith) h

pub ten_some : (n : ℕ) → 1 ≤ 10 ^ n
ten_some n = one-le-pow n 10 (omega arith)

pub factor_below : (m n r : ℕ) → 1 ≤ n → m * n < r → m < r
factor_below m n r some h = let p : m * 1 ≤ m * n = mul-le-mul_left m some in omega arith

pub ten_positive : (n : ℕ) (t : ℤ) → mag t < 2 ^ 127 → t ≡ pos (10 ^ n) → pos 1 ≤ℤ to_z w128 (of_z w128 t)
ten_positive n t f e =
    let again = to_z-of_z w128 t (record { sfits = f }) in
    let some = ten_some n in
    omega (arith, ints)

pub value_small : (v p : ℤ) → FitsSigned w128 v → unsigned_abs v * 10 ^ unsigned_abs p < 2 ^ 127 → unsigned_abs (to_z w128 (of_z w128 v)) < 2 ^ 127
value_small v p f h =
    let low = factor_below (unsigned_abs v) (10 ^ unsigned_abs p) (2 ^ 127) (ten_some (unsigned_abs p)) h in
    subst (λ x. unsigned_abs x < 2 ^ 127) (sym (to_z-of_z w128 v f)) low

-- ---- the exponent of a decimal text is empty or a numeral behind its sign

none_found : (p : ℕ → Bool) (xs : List ℕ) → list_any p xs ≡ false → length xs ≤ position_or_len p xs
none_found p [] e = omega arith
none_found p (x ∷ xs) e = split (p x) e (none_found p xs) where
  split : (b : Bool) → (b || list_any p xs) ≡ false → (list_any p xs ≡ false → length xs ≤ position_or_len p xs) → suc (length xs) ≤ cond (not b) (1 + position_or_len p xs) 0
  split true k rest = cc
  split false k rest = let l = rest k in omega arith

nothing_behind : (p : ℕ → Bool) (xs : List ℕ) → list_any p xs ≡ false → after_first p xs ≡ []
nothing_behind p xs e = let l = none_found p xs e in drop_all (position_or_len p xs + 1) xs (omega arith)

pub exponent_digits : (text : List ℕ) → is_decimal text ≡ true → list_all is_ascii_digit (without_leading_sign (exponent text)) ≡ true
exponent_digits text h =
    let parts = and_parts (is_mantissa (mantissa text)) (not (has_exponent text) || is_numeral (without_leading_sign (exponent text))) h in
    elim (or_cases (not (has_exponent text)) (is_numeral (without_leading_sign (exponent text))) parts.1) [
      | inl none ↦ ap (λ e. list_all is_ascii_digit (without_leading_sign e)) (nothing_behind is_exponent_mark (without_leading_sign text) (not-true (has_exponent text) none))
      | inr some ↦ (and_parts (not (nat_eq (length (without_leading_sign (exponent text))) 0)) (list_all is_ascii_digit (without_leading_sign (exponent text))) some).1
    ]

-- ---- the power of ten, from the exponent within 2 ^ 100

pub clamped_near : (e : ℤ) → unsigned_abs (clamped (2 ^ 100) e) ≤ 2 ^ 100
clamped_near e = omega (arith, ints, clamps)

power_fits : (w : ℤ) (s z : ℕ) → unsigned_abs w ≤ 2 ^ 100 → s < 2 ^ 64 → z < 2 ^ 64 → unsigned_abs ((w -ℤ pos s) +ℤ pos z) < 2 ^ 120
power_fits w s z hw hs hz = omega (arith, ints)

-- the code's sum, each part read again
pub record IsPowerRead (w : ℤ) (s z : ℕ) (r : ℤ) (e : ℤ) : Type 0 where
  pub first_fits : FitsSigned w128 (to_z w128 (of_z w128 w) -ℤ to_z w128 s)
  pub fits : FitsSigned w128 (to_z w128 (of_z w128 (to_z w128 (of_z w128 w) -ℤ to_z w128 s)) +ℤ to_z w128 (of_z w128 r))
  pub value : to_z w128 (of_z w128 (to_z w128 (of_z w128 (to_z w128 (of_z w128 w) -ℤ to_z w128 s)) +ℤ to_z w128 (of_z w128 r))) ≡ (clamped (2 ^ 100) e -ℤ pos s) +ℤ pos z
  pub near : unsigned_abs (to_z w128 (of_z w128 (to_z w128 (of_z w128 (to_z w128 (of_z w128 w) -ℤ to_z w128 s)) +ℤ to_z w128 (of_z w128 r)))) < 2 ^ 120

sum_read : (w : ℤ) (s z : ℕ) (r : ℤ) → unsigned_abs w ≤ 2 ^ 100 → s < 2 ^ 64 → z < 2 ^ 64 → r ≡ pos z → to_z w128 (of_z w128 (to_z w128 (of_z w128 (to_z w128 (of_z w128 w) -ℤ to_z w128 s)) +ℤ to_z w128 (of_z w128 r))) ≡ (w -ℤ pos s) +ℤ pos z
sum_read w s z r hw hs hz er =
    let a = again w (omega arith) in
    let b = to_z_pos w128 s (omega arith) in
    let d = again (pos z) (omega arith) in
    let m = again (w -ℤ pos s) (omega (arith, ints)) in
    let t = again ((w -ℤ pos s) +ℤ pos z) (omega (arith, ints)) in
    rw (er, a, b, m, d, t) refl

pub power_read : (w e : ℤ) (s z : ℕ) (r : ℤ) → w ≡ clamped (2 ^ 100) e → s < 2 ^ 64 → z < 2 ^ 64 → r ≡ pos z → IsPowerRead w s z r e
power_read w e s z r ew hs hz er =
    let small : unsigned_abs w ≤ 2 ^ 100 = subst (λ x. unsigned_abs x ≤ 2 ^ 100) (sym ew) (clamped_near e) in
    let sum = sum_read w s z r small hs hz er in
    record {
      first_fits = omega (arith, ints);
      fits = omega (arith, ints);
      value = sum ∙ ap (λ x. (x -ℤ pos s) +ℤ pos z) ew;
      near = subst (λ x. unsigned_abs x < 2 ^ 120) (sym sum) (power_fits w s z small hs hz);
    }

-- ---- the number by its significant digits

neg-times : (m n : ℕ) → neg_ℤ (pos (m * n)) ≡ neg_ℤ (pos m) *ℤ pos n
neg-times zero n = omega (arith, ints)
neg-times (suc m) n = omega (arith, ints)

signed-times : (minus : Bool) (m n : ℕ) → signed minus (m * n) ≡ signed minus m *ℤ pos n
signed-times true m n = neg-times m n
signed-times false m n = refl

ten_product : (m : ℤ) (a b c : ℕ) → c ≡ a + b → (m *ℤ pos (10 ^ a)) *ℤ pos (10 ^ b) ≡ m *ℤ pos (10 ^ c)
ten_product m a b c e = mul_assoc m (pos (10 ^ a)) (pos (10 ^ b)) ∙ ap (λ n. m *ℤ pos n) (sym (pow-add 10 a b) ∙ ap (λ n. 10 ^ n) (sym e))

times_one : (m : ℤ) → m *ℤ pos 1 ≡ m
times_one m = omega (arith, ints)

-- zeros at the back of the digits count as a power of ten
zeros_as_power : (m : ℤ) (z : ℕ) (k q : ℤ) → k +ℤ pos z ≡ q → SameValue (times_power_of_ten m q) (times_power_of_ten (m *ℤ pos (10 ^ z)) k)
zeros_as_power m z (pos a) q e =
    let big : (m *ℤ pos (10 ^ (a + z))) ≡ (m *ℤ pos (10 ^ z)) *ℤ pos (10 ^ a) = sym (ten_product m z a (a + z) (omega arith)) in
    subst (λ x. SameValue (times_power_of_ten m x) (times_power_of_ten (m *ℤ pos (10 ^ z)) (pos a))) e (ap (λ x. x *ℤ pos 1) big)
zeros_as_power m z (negsuc j) (pos r) e =
    let big : (m *ℤ pos (10 ^ r)) *ℤ pos (10 ^ suc j) ≡ m *ℤ pos (10 ^ z) = ten_product m r (suc j) z (omega (arith, ints)) in
    big ∙ sym (times_one (m *ℤ pos (10 ^ z)))
zeros_as_power m z (negsuc j) (negsuc r) e = sym (ten_product m z (suc r) (suc j) (omega (arith, ints)))

mul_swap : (a b c : ℤ) → (a *ℤ b) *ℤ c ≡ (a *ℤ c) *ℤ b
mul_swap a b c = mul_assoc a b c ∙ ap (λ x. a *ℤ x) (mul_comm b c) ∙ sym (mul_assoc a c b)

positive_den : (m q : ℤ) → pos 1 ≤ℤ (times_power_of_ten m q).den
positive_den m (pos k) = omega (arith, ints)
positive_den m (negsuc k) = omega (arith, ints, ten_some (suc k))

-- fractions of one value as a third have one value
pub SameValue-trans : (f t g : Fraction) → pos 1 ≤ℤ t.den → SameValue f t → SameValue t g → SameValue f g
SameValue-trans f t g some p q =
    same_by (f.num *ℤ g.den) (g.num *ℤ f.den) t.den some
    (
    mul_swap f.num g.den t.den ∙ ap (λ x. x *ℤ g.den) p ∙ mul_swap t.num f.den g.den ∙ ap (λ x. x *ℤ f.den) q
    ∙ mul_swap g.num t.den f.den
    )

-- what the code makes of the significand is the number that the text spells
pub number_is : (text : List ℕ) (f : Fraction) (s : Significand) (q : ℤ) → IsSignificand (digits text) s → s.width ≤ 18 → q ≡ power text → SameValue f (times_power_of_ten (signed (starts_with_minus text) s.value) q) → SameValue f (spelled text)
number_is text f s q h small e p =
    let minus = starts_with_minus text in
    let m = signed minus s.value in
    let whole : m *ℤ pos (10 ^ s.zeros) ≡ signed minus (digits_value 10 (digits text)) = sym (signed-times minus s.value (10 ^ s.zeros)) ∙ ap (signed minus) (h.value_is small) in
    let up : last_power text +ℤ pos s.zeros ≡ q = ap (λ z. last_power text +ℤ pos z) h.zeros_is ∙ sym e in
    let shifted : SameValue (times_power_of_ten m q) (spelled text) = subst (λ x. SameValue (times_power_of_ten m q) (times_power_of_ten x (last_power text))) whole (zeros_as_power m s.zeros (last_power text) q up) in
    SameValue-trans f (times_power_of_ten m q) (spelled text) (positive_den m q) p shifted

-- ---- the limits, from the exponent within 2 ^ 100

bool_same : (x y : Bool) → (x ≡ true → y ≡ true) → (y ≡ true → x ≡ true) → x ≡ y
bool_same true y f g = sym (f refl)
bool_same false true f g = g refl
bool_same false false f g = refl

to_lt : (a b : ℤ) → a <ℤ b → int_lt a b ≡ true
to_lt a b h = grind (arith, ints)

lt_same : (a b c d : ℤ) → (int_lt a b ≡ true → c <ℤ d) → (int_lt c d ≡ true → a <ℤ b) → int_lt a b ≡ int_lt c d
lt_same a b c d f g = bool_same (int_lt a b) (int_lt c d) (λ e. to_lt c d (f e)) (λ e. to_lt a b (g e))

low_same : (e : ℤ) (s z : ℕ) → s < 2 ^ 64 → z < 2 ^ 64 → int_lt ((clamped (2 ^ 100) e -ℤ pos s) +ℤ pos z) (neg_ℤ (pos 18)) ≡ int_lt ((e -ℤ pos s) +ℤ pos z) (neg_ℤ (pos 18))
low_same e s z hs hz =
    lt_same ((clamped (2 ^ 100) e -ℤ pos s) +ℤ pos z) (neg_ℤ (pos 18)) ((e -ℤ pos s) +ℤ pos z) (neg_ℤ (pos 18))
    (λ k. omega (arith, ints, clamps))
    (λ k. omega (arith, ints, clamps))

high_same : (e : ℤ) (s z w : ℕ) → s < 2 ^ 64 → z < 2 ^ 64 → w < 2 ^ 64 → int_lt (pos 36) (pos w +ℤ ((clamped (2 ^ 100) e -ℤ pos s) +ℤ pos z)) ≡ int_lt (pos 36) (pos w +ℤ ((e -ℤ pos s) +ℤ pos z))
high_same e s z w hs hz hw =
    lt_same (pos 36) (pos w +ℤ ((clamped (2 ^ 100) e -ℤ pos s) +ℤ pos z)) (pos 36) (pos w +ℤ ((e -ℤ pos s) +ℤ pos z))
    (λ k. omega (arith, ints, clamps))
    (λ k. omega (arith, ints, clamps))

-- the three tests of the code
abbrev past_limits : ℕ → ℤ → Bool
past_limits w p = nat_lt 18 w || int_lt p (neg_ℤ (pos 18)) || int_lt (pos 36) (pos w +ℤ p)

abbrev wide : ℕ → ℤ → Bool
wide w p = nat_lt 0 w && past_limits w p

clamped_same : (e : ℤ) (s z w : ℕ) → s < 2 ^ 64 → z < 2 ^ 64 → w < 2 ^ 64 → past_limits w ((clamped (2 ^ 100) e -ℤ pos s) +ℤ pos z) ≡ past_limits w ((e -ℤ pos s) +ℤ pos z)
clamped_same e s z w hs hz hw =
    let near = (clamped (2 ^ 100) e -ℤ pos s) +ℤ pos z in
    let far = (e -ℤ pos s) +ℤ pos z in
    ap (λ b. nat_lt 18 w || b || int_lt (pos 36) (pos w +ℤ near)) (low_same e s z hs hz)
    ∙ ap (λ b. nat_lt 18 w || int_lt far (neg_ℤ (pos 18)) || b) (high_same e s z w hs hz hw)

pub is_wide_is : (text : List ℕ) (s : Significand) (p : ℤ) (b : Bool) → IsSignificand (digits text) s → (s.width ≡ 0 → ⊥) → p ≡ (clamped (2 ^ 100) (signed_digits_value 10 (exponent text)) -ℤ pos (scale text)) +ℤ pos s.zeros → scale text < 2 ^ 64 → s.zeros < 2 ^ 64 → s.width < 2 ^ 64 → b ≡ past_limits s.width p → is_wide text ≡ b
is_wide_is text s p b h some ep hs hz hw eb =
    let e = signed_digits_value 10 (exponent text) in
    ap (λ w. wide w (power text)) (sym h.width_is) ∙ ap (λ z. wide s.width (last_power text +ℤ pos z)) (sym h.zeros_is)
    ∙ ap (λ t. t && past_limits s.width (last_power text +ℤ pos s.zeros)) (lt-ltb 0 s.width (omega arith))
    ∙ sym (clamped_same e (scale text) s.zeros s.width hs hz hw) ∙ sym (ap (past_limits s.width) ep) ∙ sym eb

pub refused_wide : (text : List ℕ) (d : Bool) → d ≡ is_decimal text → d ≡ true → is_wide text ≡ true → number_fault text ≡ Some NumberWide
refused_wide text d ed et ew = ap (λ b. cond b (cond (is_wide text) (Some NumberWide) None) (Some NumberText)) (sym ed ∙ et) ∙ ap (λ b. cond b (Some NumberWide) None) ew

pub not_refused : (text : List ℕ) (d : Bool) → d ≡ is_decimal text → d ≡ true → is_wide text ≡ false → number_fault text ≡ None
not_refused text d ed et ew = ap (λ b. cond b (cond (is_wide text) (Some NumberWide) None) (Some NumberText)) (sym ed ∙ et) ∙ ap (λ b. cond b (Some NumberWide) None) ew

-- ---- what holds within the limits

pub record IsWithinLimits (w : ℕ) (p : ℤ) : Type 0 where
  pub few : w ≤ 18
  pub low : neg_ℤ (pos 18) ≤ℤ p
  pub high : (pos w +ℤ p) ≤ℤ pos 36

pub within_limits : (w : ℕ) (p : ℤ) (b : Bool) → b ≡ past_limits w p → b ≡ false → IsWithinLimits w p
within_limits w p b eb ef =
    let first = or_parts (nat_lt 18 w || int_lt p (neg_ℤ (pos 18))) (int_lt (pos 36) (pos w +ℤ p)) (sym eb ∙ ef) in
    let second = or_parts (nat_lt 18 w) (int_lt p (neg_ℤ (pos 18))) first.0 in
    let high = first.1 in
    let low = second.1 in
    record { few = ltb-false 18 w second.0; low = omega (arith, ints); high = omega (arith, ints) }

-- there the exponent was within 2 ^ 100
pub power_is : (text : List ℕ) (s : Significand) (p : ℤ) → IsSignificand (digits text) s → p ≡ (clamped (2 ^ 100) (signed_digits_value 10 (exponent text)) -ℤ pos (scale text)) +ℤ pos s.zeros → scale text < 2 ^ 64 → s.zeros < 2 ^ 64 → IsWithinLimits s.width p → p ≡ power text
power_is text s p h ep hs hz l =
    let low = l.low in
    let high = l.high in
    inside (signed_digits_value 10 (exponent text)) (scale text) s.zeros s.width p ep hs hz low high ∙ ap (λ z. last_power text +ℤ pos z) h.zeros_is where
      inside : (e : ℤ) (c z w : ℕ) (p : ℤ) → p ≡ (clamped (2 ^ 100) e -ℤ pos c) +ℤ pos z → c < 2 ^ 64 → z < 2 ^ 64 → neg_ℤ (pos 18) ≤ℤ p → (pos w +ℤ p) ≤ℤ pos 36 → p ≡ (e -ℤ pos c) +ℤ pos z
      inside e c z w p ep hc hz low high = omega (arith, ints, clamps)

abs-signed : (minus : Bool) (n : ℕ) → unsigned_abs (signed minus n) ≡ n
abs-signed true zero = refl
abs-signed true (suc n) = refl
abs-signed false n = refl

ten_room : (v w k : ℕ) → v < 10 ^ w → v * 10 ^ k < 10 ^ (w + k)
ten_room v w k h =
    let step : suc v * 10 ^ k ≤ 10 ^ w * 10 ^ k = mul-le-mul_right (10 ^ k) h in
    omega (arith, ten_some k, pow-add 10 w k)

pub record HasRoom (m p : ℤ) : Type 0 where
  pub room : unsigned_abs m * 10 ^ unsigned_abs p < 10 ^ 36
  pub num : unsigned_abs (times_power_of_ten m p).num < 10 ^ 36
  pub den : unsigned_abs (times_power_of_ten m p).den ≤ 10 ^ 18

pub has_room : (minus : Bool) (v w : ℕ) (p : ℤ) → v < 10 ^ w → IsWithinLimits w p → HasRoom (signed minus v) p
has_room minus v w (pos k) h l =
    let m = signed minus v in
    let size = abs-signed minus v in
    let fit : v * 10 ^ k < 10 ^ 36 = below_ten_to (w + k) 36 (v * 10 ^ k) (ten_room v w k h) (omega (arith, ints, l.high)) in
    let room : unsigned_abs m * 10 ^ k < 10 ^ 36 = subst (λ n. n * 10 ^ k < 10 ^ 36) (sym size) fit in
    record { room = room; num = subst (λ n. n < 10 ^ 36) (sym (unsigned_abs-mul m (pos (10 ^ k)))) room; den = omega arith }
has_room minus v w (negsuc j) h l =
    let m = signed minus v in
    let size = abs-signed minus v in
    let few : suc j ≤ 18 = omega (arith, ints, l.low) in
    let fit : v * 10 ^ suc j < 10 ^ 36 = below_ten_to (w + suc j) 36 (v * 10 ^ suc j) (ten_room v w (suc j) h) (omega (arith, l.few)) in
    let room : unsigned_abs m * 10 ^ suc j < 10 ^ 36 = subst (λ n. n * 10 ^ suc j < 10 ^ 36) (sym size) fit in
    record {
      room = room;
      num = factor_below (unsigned_abs m) (10 ^ suc j) (10 ^ 36) (ten_some (suc j)) room;
      den = pow-le-pow_right (omega arith) few;
    }

-- ---- what the code has found of a text, and what follows

pub record IsScanned (text : List ℕ) (s : Significand) (p : ℤ) (past : Bool) : Type 0 where
  pub significand : IsSignificand (digits text) s
  pub some : s.width ≡ 0 → ⊥
  pub power_value : p ≡ (clamped (2 ^ 100) (signed_digits_value 10 (exponent text)) -ℤ pos (scale text)) +ℤ pos s.zeros
  pub short : scale text < 2 ^ 64
  pub zeros_fit : s.zeros < 2 ^ 64
  pub width_fit : s.width < 2 ^ 64
  pub near : unsigned_abs p < 2 ^ 120
  pub tested : past ≡ past_limits s.width p

pub scanned : (text m : List ℕ) (s : Significand) (p : ℤ) (past : Bool) → m ≡ mantissa text → IsSignificand (filter is_ascii_digit m) s → (s.width ≡ 0 → ⊥) → p ≡ (clamped (2 ^ 100) (signed_digits_value 10 (exponent text)) -ℤ pos (scale text)) +ℤ pos s.zeros → scale text < 2 ^ 64 → s.zeros < 2 ^ 64 → s.width < 2 ^ 64 → unsigned_abs p < 2 ^ 120 → past ≡ past_limits s.width (to_z w128 (of_z w128 p)) → IsScanned text s p past
scanned text m s p past em h some ep short zf wf near et = record {
  significand = subst (λ t. IsSignificand (filter is_ascii_digit t) s) em h;
  some = some;
  power_value = ep;
  short = short;
  zeros_fit = zf;
  width_fit = wf;
  near = near;
  tested = et ∙ ap (past_limits s.width) (again p (omega arith));
}

pub wide_as_tested : (text : List ℕ) (s : Significand) (p : ℤ) (past : Bool) → IsScanned text s p past → is_wide text ≡ past
wide_as_tested text s p past k = is_wide_is text s p past k.significand k.some k.power_value k.short k.zeros_fit k.width_fit k.tested

pub limits_of : (text : List ℕ) (s : Significand) (p : ℤ) (past : Bool) → IsScanned text s p past → past ≡ false → IsWithinLimits s.width p
limits_of text s p past k e = within_limits s.width p past k.tested e

-- the value and the power, each read again
read_value : (minus : Bool) (v : ℤ) (n : ℕ) → n < 2 ^ 64 → v ≡ signed minus n → to_z w128 (of_z w128 v) ≡ signed minus n
read_value minus v n h e = again v (subst (λ x. x < 2 ^ 127) (sym (ap unsigned_abs e ∙ abs-signed minus n)) (omega arith)) ∙ e

value_fits : (text : List ℕ) (s : Significand) (p : ℤ) (past : Bool) → IsScanned text s p past → past ≡ false → s.value < 10 ^ s.width
value_fits text s p past k e = k.significand.small (limits_of text s p past k e).few

pub room_of : (text : List ℕ) (s : Significand) (p v : ℤ) (past minus : Bool) → IsScanned text s p past → past ≡ false → s.value < 2 ^ 64 → v ≡ signed minus s.value → HasRoom (to_z w128 (of_z w128 v)) (to_z w128 (of_z w128 p))
room_of text s p v past minus k e fits ev =
    let made = has_room minus s.value s.width p (value_fits text s p past k e) (limits_of text s p past k e) in
    subst (λ x. HasRoom x (to_z w128 (of_z w128 p))) (sym (read_value minus v s.value fits ev)) (subst (λ x. HasRoom (signed minus s.value) x) (sym (again p (omega (arith, k.near)))) made)

pub spelled_of : (text : List ℕ) (f : Fraction) (s : Significand) (p v : ℤ) (past : Bool) → IsScanned text s p past → past ≡ false → s.value < 2 ^ 64 → v ≡ signed (starts_with_minus text) s.value → SameValue f (times_power_of_ten (to_z w128 (of_z w128 v)) (to_z w128 (of_z w128 p))) → SameValue f (spelled text)
spelled_of text f s p v past k e fits ev h =
    let minus = starts_with_minus text in
    let l = limits_of text s p past k e in
    let q : p ≡ power text = power_is text s p k.significand k.power_value k.short k.zeros_fit l in
    let P : ℤ → ℤ → Type 0 = λ x y. SameValue f (times_power_of_ten x y) in
    let plain : P (signed minus s.value) p = subst (λ x. P x p) (read_value minus v s.value fits ev) (subst (λ y. P (to_z w128 (of_z w128 v)) y) (again p (omega (arith, k.near))) h) in
    number_is text f s p k.significand l.few q plain
