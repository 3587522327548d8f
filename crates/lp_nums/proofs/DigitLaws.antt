-- Laws of digits in texts: places, zeros at either end, values.
use Rattle.std.proofs.Common.{ℕ, suc, ◌+◌, ◌-◌, ◌*◌, ◌^◌, ◌<◌, ◌≤◌, ◌≡◌, refl, sym, ap, ◌∙◌, arith, Bool, true, false, cond, List, [], ◌∷◌, ◌++◌, length, Option, Some, None, ◌⊎◌, inl, inr}
use Rattle.std.specs.Prelude.{unwrap_or, position, nat_lt}
use Rattle.std.specs.List.{position_or_len, prefix_len, suffix_len}
use Rattle.std.specs.Char.{digit_value}
use Rattle.std.specs.Prelude.{min}
use Rattle.std.proofs.lemmas.Bool.{ltb-false, ne_eqb}
use Rattle.std.proofs.lemmas.Nat.{pow-add}
use Rattle.std.proofs.Math.Nat.{one-le-pow, mul-le-mul_right, pow-le-pow_right}
use Rattle.std.proofs.lemmas.Int.Digits.{digits_value_push}
use Rattle.std.proofs.lemmas.List.{reverse-append, length-append, length-reverse}
use Rattle.std.proofs.lemmas.List.Sums.{prefix_len-le-length, suffix_len-le-length}
use Rattle.std.specs.Prelude.{reverse}
use Rattle.lp_nums.specs.declared.scan.Significand.{Significand}
use Rattle.lp_nums.specs.Decimals.{is_zero, without_front_zeros, back_zeros, width}
use Rattle.lp_nums.specs.Significands.{IsSignificand}

-- the place of the first byte that passes, from what `position` and `unwrap_or` answered
found : (n m : ℕ) (b : Bool) → (b ≡ false → n ≡ m) → unwrap_or (cond b (Some n) None) m ≡ n
found n m true h = refl
found n m false h = sym (h refl)

pub place_is : (p : ℕ → Bool) (xs : List ℕ) (o : Option ℕ) (r : ℕ) → o ≡ position p xs → r ≡ unwrap_or o (length xs) → r ≡ position_or_len p xs
place_is p xs o r eo er =
    let top : position_or_len p xs ≤ length xs = prefix_len-le-length _ xs in
    er ∙ ap (λ k. unwrap_or k (length xs)) eo ∙ found (position_or_len p xs) (length xs) (nat_lt (position_or_len p xs) (length xs)) (λ e. let low = ltb-false (position_or_len p xs) (length xs) e in omega arith)

-- ---- zeros at either end, as one byte is added behind

suffix_len-push : (ts : List ℕ) (c : ℕ) → suffix_len is_zero (ts ++ c ∷ []) ≡ cond (is_zero c) (1 + suffix_len is_zero ts) 0
suffix_len-push ts c = ap (prefix_len is_zero) (reverse-append ts (c ∷ []))

-- a byte is kept behind kept ones, and where it is no zero
front-push : (ds : List ℕ) (c : ℕ) → (0 < length (without_front_zeros ds)) ⊎ (is_zero c ≡ false) → without_front_zeros (ds ++ c ∷ []) ≡ without_front_zeros ds ++ c ∷ []
front-push [] c (inl h) = absurd (omega arith)
front-push [] c (inr h) = ap (λ b. cond b [] (c ∷ [])) h
front-push (d ∷ ds) c h = split (is_zero d) (front-push ds c) h where
  split : (b : Bool) → ((0 < length (without_front_zeros ds)) ⊎ (is_zero c ≡ false) → without_front_zeros (ds ++ c ∷ []) ≡ without_front_zeros ds ++ c ∷ []) → (0 < length (cond b (without_front_zeros ds) (d ∷ ds))) ⊎ (is_zero c ≡ false) → cond b (without_front_zeros (ds ++ c ∷ [])) (d ∷ ds ++ c ∷ []) ≡ cond b (without_front_zeros ds) (d ∷ ds) ++ c ∷ []
  split true rest k = rest k
  split false rest k = refl

front-push_zero : (ds : List ℕ) (c : ℕ) → length (without_front_zeros ds) ≡ 0 → is_zero c ≡ true → length (without_front_zeros (ds ++ c ∷ [])) ≡ 0
front-push_zero [] c h z = ap (λ b. length (cond b [] (c ∷ []))) z
front-push_zero (d ∷ ds) c h z = split (is_zero d) (λ k. front-push_zero ds c k z) h where
  split : (b : Bool) → (length (without_front_zeros ds) ≡ 0 → length (without_front_zeros (ds ++ c ∷ [])) ≡ 0) → length (cond b (without_front_zeros ds) (d ∷ ds)) ≡ 0 → length (cond b (without_front_zeros (ds ++ c ∷ [])) (d ∷ ds ++ c ∷ [])) ≡ 0
  split true rest k = rest k
  split false rest k = absurd (omega arith)

-- where something is left behind the zeros at the front, it does not end in zeros alone
prefix_len-push_le : (xs : List ℕ) (c : ℕ) → is_zero c ≡ false → prefix_len is_zero (xs ++ c ∷ []) ≤ length xs
prefix_len-push_le [] c e = let none : prefix_len is_zero ([] ++ c ∷ []) ≡ 0 = ap (λ b. cond b (1 + 0) 0) e in omega arith
prefix_len-push_le (x ∷ xs) c e = split (is_zero x) (prefix_len-push_le xs c e) where
  split : (b : Bool) → prefix_len is_zero (xs ++ c ∷ []) ≤ length xs → cond b (1 + prefix_len is_zero (xs ++ c ∷ [])) 0 ≤ suc (length xs)
  split true rest = omega arith
  split false rest = omega arith

kept_back : (c : ℕ) (cs : List ℕ) → is_zero c ≡ false → suffix_len is_zero (c ∷ cs) ≤ length cs
kept_back c cs e = omega (arith, ap (prefix_len is_zero) (reverse-append (c ∷ []) cs), prefix_len-push_le (reverse cs) c e, length-reverse cs)

front_some : (ds : List ℕ) → (length (without_front_zeros ds) ≡ 0) ⊎ (0 < width ds)
front_some [] = inl refl
front_some (d ∷ ds) = split (is_zero d) refl (front_some ds) where
  split : (b : Bool) → is_zero d ≡ b → (length (without_front_zeros ds) ≡ 0) ⊎ (0 < width ds) → (length (cond b (without_front_zeros ds) (d ∷ ds)) ≡ 0) ⊎ (0 < length (cond b (without_front_zeros ds) (d ∷ ds)) - suffix_len is_zero (cond b (without_front_zeros ds) (d ∷ ds)))
  split true e rest = rest
  split false e rest = inr (let few = kept_back d ds e in omega arith)

back_le : (ds : List ℕ) → back_zeros ds ≤ length (without_front_zeros ds)
back_le ds = suffix_len-le-length is_zero (without_front_zeros ds)

-- ---- the significand, as one byte is added behind

-- a digit behind z zeros behind a number of w digits
pub appended_room : (v w z d : ℕ) → v < 10 ^ w → d < 10 → v * 10 ^ (z + 1) + d < 10 ^ (w + z + 1)
appended_room v w z d hv hd =
    let one : 1 ≤ 10 ^ z = one-le-pow z 10 (omega arith) in
    let ten : 10 ^ (z + 1) ≡ 10 ^ z * 10 = pow-add 10 z 1 in
    let e : w + z + 1 ≡ w + (z + 1) = omega arith in
    let all : 10 ^ (w + z + 1) ≡ 10 ^ w * 10 ^ (z + 1) = ap (λ n. 10 ^ n) e ∙ pow-add 10 w (z + 1) in
    let step : suc v * 10 ^ (z + 1) ≤ 10 ^ w * 10 ^ (z + 1) = mul-le-mul_right (10 ^ (z + 1)) hv in
    omega arith

pub below_ten_to : (a b n : ℕ) → n < 10 ^ a → a ≤ b → n < 10 ^ b
below_ten_to a b n h l = let p : 10 ^ a ≤ 10 ^ b = pow-le-pow_right (omega arith) l in omega arith

pub first_zero : (ds : List ℕ) (s : Significand) → s.width ≡ 0 → IsSignificand ds s → IsSignificand (ds ++ 48 ∷ []) s
first_zero ds s none h =
    let empty : length (without_front_zeros ds) ≡ 0 = elim (front_some ds) [ inl e ↦ e | inr some ↦ absurd (omega (arith, h.width_is)) ] in
    let still = front-push_zero ds 48 empty refl in
    let back = back_le ds in
    let back' = back_le (ds ++ 48 ∷ []) in
    let one : 10 ^ s.width ≡ 1 = ap (λ n. 10 ^ n) none in
    let nothing : s.value ≡ 0 = omega (arith, h.small (omega arith)) in
    let gone : s.value * 10 ^ s.zeros ≡ 0 * 10 ^ s.zeros = ap (λ v. v * 10 ^ s.zeros) nothing in
    record {
      width_is = omega arith;
      zeros_is = omega (arith, h.zeros_is);
      value_is = λ l. omega (arith, h.value_is l, digits_value_push 10 ds 48);
      small = h.small;
    }

pub more_zeros : (ds : List ℕ) (s : Significand) → (s.width ≡ 0 → ⊥) → IsSignificand ds s → IsSignificand (ds ++ 48 ∷ []) (record { value = s.value; width = s.width; zeros = s.zeros + 1 })
more_zeros ds s some h =
    let kept : 0 < length (without_front_zeros ds) = omega (arith, h.width_is) in
    let pushed = front-push ds 48 (inl kept) in
    let longer = ap length pushed ∙ length-append (without_front_zeros ds) (48 ∷ []) in
    let zeros = ap (suffix_len is_zero) pushed ∙ suffix_len-push (without_front_zeros ds) 48 in
    let ten : 10 ^ (s.zeros + 1) ≡ 10 ^ s.zeros * 10 = pow-add 10 s.zeros 1 in
    record {
      width_is = omega (arith, h.width_is, longer, zeros);
      zeros_is = omega (arith, h.zeros_is, zeros);
      value_is = λ l. omega (arith, ap (λ n. s.value * n) ten, ap (λ n. n * 10) (h.value_is l), digits_value_push 10 ds 48);
      small = h.small;
    }

pub next_digit : (ds : List ℕ) (s : Significand) (v c : ℕ) → (c ≡ 48 → ⊥) → (s.width + s.zeros + 1 ≤ 18 → v ≡ s.value * 10 ^ (s.zeros + 1) + digit_value c) → digit_value c < 10 → IsSignificand ds s → IsSignificand (ds ++ c ∷ []) (record { value = v; width = s.width + s.zeros + 1; zeros = 0 })
next_digit ds s v c other ev below h =
    let e : is_zero c ≡ false = ne_eqb c 48 other in
    let pushed = front-push ds c (inr e) in
    let longer = ap length pushed ∙ length-append (without_front_zeros ds) (c ∷ []) in
    let zeros = ap (suffix_len is_zero) pushed ∙ suffix_len-push (without_front_zeros ds) c ∙ ap (λ b. cond b (1 + suffix_len is_zero (without_front_zeros ds)) 0) e in
    let back = back_le ds in
    let ten : 10 ^ (s.zeros + 1) ≡ 10 ^ s.zeros * 10 = pow-add 10 s.zeros 1 in
    record {
      width_is = omega (arith, h.width_is, h.zeros_is, longer, zeros);
      zeros_is = omega (arith, zeros);
      value_is = λ l. omega (arith, ev l, ap (λ n. s.value * n) ten, ap (λ n. n * 10) (h.value_is (omega arith)), digits_value_push 10 ds c);
      small = λ l. omega (arith, ev l, appended_room s.value s.width s.zeros (digit_value c) (h.small (omega arith)) below);
    }

-- ---- a value that stops growing

pub capped : (n d v r m : ℕ) → v ≡ min (2 ^ 100) n → r ≡ d → m ≡ min (v * 10 + r) (2 ^ 100) → m ≡ min (2 ^ 100) (n * 10 + d)
capped n d v r m ev er em = omega arith
