-- A decimal text without a fault spells a number of a deck.
use Rattle.std.proofs.Common.{ℕ, zero, suc, ◌+◌, ◌-◌, ◌*◌, ◌^◌, ◌%◌, ◌<◌, ◌≤◌, ◌≡◌, inl, inr, refl, sym, ap, subst, ◌∙◌, arith, Bool, true, false, ◌||◌, cond, eqb, List, [], ◌∷◌, ◌++◌, Some, None, ℤ, pos, negsuc, neg_ℤ, ◌+ℤ◌, ◌*ℤ◌, ◌≤ℤ◌}
use Rattle.std.specs.Prelude.{unsigned_abs, nat_lt, int_lt, int_div, option_map}
use Rattle.std.specs.Int.{IsGcd}
use Rattle.std.specs.List.{list_all}
use Rattle.std.specs.Char.{is_ascii_digit, digit_value}
use Rattle.std.specs.Str.Parse.{starts_with_minus}
use Rattle.std.proofs.lemmas.Bool.{and_parts, and_cases, eqb-true, eqb-false, leb-true, lt-ltb, le-ltb, ltb-false, cases_eq}
use Rattle.std.proofs.lemmas.Int.{ints, unsigned_abs-mul}
use Rattle.std.proofs.lemmas.List.{append_assoc, append-nil}
use Rattle.std.proofs.lemmas.List.Elements.{filter_passes}
use Rattle.std.proofs.lemmas.List.Sums.{list_all-from_AllPass}
use Rattle.std.proofs.lemmas.Nat.Gcd.{IsGcd-from_zero, IsGcd-from_mod}
use Rattle.std.proofs.Math.Nat.{mul-le-mul_left, pos_of_dvd_of_pos}
use Rattle.lp_nums.specs.Fractions.{Fraction, IsReduced, SameValue}
use Rattle.lp_nums.specs.Decimals.{mantissa, digits, width, power, signed, times_power_of_ten, spelled, is_decimal, is_wide}
use Rattle.lp_nums.specs.declared.decimals.NumberFault.TheVariants.{NumberText, NumberWide}
use Rattle.lp_nums.specs.declared.scan.Significand.{Significand}
use Rattle.lp_nums.specs.Significands.{IsSignificand}
use Rattle.lp_nums.proofs.FractionLaws.{exact, reduced_parts, unique}
use Rattle.lp_nums.proofs.DigitLaws.{first_zero, more_zeros, next_digit}
use Rattle.lp_nums.proofs.DecimalLaws.{ten_some, SameValue-trans, number_is, within_limits, has_room}
use Rattle.mps_lex.specs.Kinds.{Name}
use Rattle.decks.specs.Decks.{IsDeckNumber, zero as nought}
use Rattle.decks.specs.Numbers.{common_divisor_within, common_divisor, divided, lowest_terms, value_of, why_no_number, text_fault}

-- ---- the greatest common divisor

gcd_step : (t : Bool) (a b g : ℕ) → eqb b 0 ≡ t → (t ≡ false → IsGcd b (a % b) g) → IsGcd a b (cond t a g)
gcd_step true a b g e next = IsGcd-from_zero a b (eqb-true b 0 e)
gcd_step false a b g e next = IsGcd-from_mod a b g (next refl)

rest_below : (a b steps : ℕ) → (b ≡ 0 → ⊥) → b < suc steps → a % b < steps
rest_below a zero steps some l = absurd (some refl)
rest_below a (suc b) steps some l = omega arith

gcd_within : (steps a b : ℕ) → b < steps → IsGcd a b (common_divisor_within steps a b)
gcd_within zero a b l = absurd (omega arith)
gcd_within (suc steps) a b l = gcd_step (eqb b 0) a b (common_divisor_within steps b (a % b)) refl (λ e. gcd_within steps b (a % b) (rest_below a b steps (eqb-false b 0 e) l))

pub gcd_is : (a b : ℕ) → IsGcd a b (common_divisor a b)
gcd_is a b = gcd_within (suc b) a b (omega arith)

-- ---- lowest terms

pub record IsLowest (f g : Fraction) : Type 0 where
  pub reduced : IsReduced g
  pub same : SameValue g f
  pub num : unsigned_abs g.num ≤ unsigned_abs f.num
  pub den : unsigned_abs g.den ≤ unsigned_abs f.den

part_small : (a g n : ℤ) → a *ℤ g ≡ n → 0 < unsigned_abs g → unsigned_abs a ≤ unsigned_abs n
part_small a g n e some =
    let more : unsigned_abs a * 1 ≤ unsigned_abs a * unsigned_abs g = mul-le-mul_left (unsigned_abs a) some in
    omega (arith, more, unsigned_abs-mul a g, ap unsigned_abs e)

divided_is : (f : Fraction) (c : ℕ) → pos 1 ≤ℤ f.den → IsGcd (unsigned_abs f.num) (unsigned_abs f.den) c → IsLowest f (divided f (pos c))
divided_is f c positive h =
    let some : 0 < c = pos_of_dvd_of_pos h.1 (omega (arith, ints)) in
    let num = exact f.num (pos c) h.0 in
    let den = exact f.den (pos c) h.1 in
    let parts = reduced_parts f.num f.den (int_div f.num (pos c)) (int_div f.den (pos c)) (pos c) positive (omega (arith, ints)) h num den in
    record {
      reduced = parts.0;
      same = parts.1;
      num = part_small (int_div f.num (pos c)) (pos c) f.num num some;
      den = part_small (int_div f.den (pos c)) (pos c) f.den den some;
    }

pub lowest_is : (f : Fraction) → pos 1 ≤ℤ f.den → IsLowest f (lowest_terms f)
unfolding lowest_terms
lowest_is f positive = divided_is f (common_divisor (unsigned_abs f.num) (unsigned_abs f.den)) positive (gcd_is (unsigned_abs f.num) (unsigned_abs f.den))

-- ---- significands

digit_small : (c : ℕ) → is_ascii_digit c ≡ true → digit_value c < 10
digit_small c h =
    let p = and_parts _ _ h in
    let low : 48 ≤ c = leb-true _ _ p.0 in
    let high : c ≤ 57 = leb-true _ _ p.1 in
    let e : digit_value c ≡ c - 48 =
    ap (λ (b : Bool). cond b 36 (cond (nat_lt c 58) (c - 48) (cond (nat_lt c 65) 36 (cond (nat_lt c 91) (c - 55) (cond (nat_lt c 97) 36 (cond (nat_lt c 123) (c - 87) 36)))))) (le-ltb c 48 low)
    ∙ ap (λ (b : Bool). cond b (c - 48) (cond (nat_lt c 65) 36 (cond (nat_lt c 91) (c - 55) (cond (nat_lt c 97) 36 (cond (nat_lt c 123) (c - 87) 36))))) (lt-ltb c 58 (omega arith)) in
    omega (arith, e)

abbrev Some_significand : List ℕ → Type 0
Some_significand ds = (s : Significand) × IsSignificand ds s

one_more : (ds : List ℕ) (c : ℕ) (s : Significand) → is_ascii_digit c ≡ true → IsSignificand ds s → Some_significand (ds ++ c ∷ [])
one_more ds c s digit h =
    elim (cases_eq c 48) [
      | inl e ↦ subst (λ (b : ℕ). Some_significand (ds ++ b ∷ [])) (sym e) (elim (cases_eq s.width 0) [
        | inl none ↦ (s, first_zero ds s none h)
        | inr some ↦ (record { value = s.value; width = s.width; zeros = s.zeros + 1 }, more_zeros ds s some h)
      ])
      | inr other ↦ (
        record { value = s.value * 10 ^ (s.zeros + 1) + digit_value c; width = s.width + s.zeros + 1; zeros = 0 },
        next_digit ds s (s.value * 10 ^ (s.zeros + 1) + digit_value c) c other (λ l. refl) (digit_small c digit) h,
      )
    ]

all_more : (ds more : List ℕ) → list_all is_ascii_digit more ≡ true → Some_significand ds → Some_significand (ds ++ more)
all_more ds [] h s = subst Some_significand (sym (append-nil ds)) s
all_more ds (c ∷ more) h s =
    let p = and_parts (is_ascii_digit c) (list_all is_ascii_digit more) h in
    subst Some_significand (append_assoc ds (c ∷ []) more) (all_more (ds ++ c ∷ []) more p.1 (one_more ds c s.0 p.0 s.1))

no_digits : Some_significand []
no_digits = (record { value = 0; width = 0; zeros = 0 }, record { width_is = refl; zeros_is = refl; value_is = λ l. refl; small = λ l. omega arith })

significand_of : (text : List ℕ) → Some_significand (digits text)
significand_of text = all_more [] (digits text) (list_all-from_AllPass is_ascii_digit (digits text) (filter_passes is_ascii_digit (mantissa text))) no_digits

-- ---- a fraction of the same value, within the limits

pub record IsNear (text : List ℕ) (f : Fraction) : Type 0 where
  pub same : SameValue f (spelled text)
  pub positive : pos 1 ≤ℤ f.den
  pub num : unsigned_abs f.num < 10 ^ 36
  pub den : unsigned_abs f.den ≤ 10 ^ 18

pub positive_den : (m q : ℤ) → pos 1 ≤ℤ (times_power_of_ten m q).den
positive_den m (pos k) = omega (arith, ints)
positive_den m (negsuc k) = omega (arith, ints, ten_some (suc k))

nothing_at : (minus : Bool) (q : ℤ) → SameValue nought (times_power_of_ten (signed minus 0) q)
nothing_at true (pos k) = omega (arith, ints)
nothing_at true (negsuc k) = omega (arith, ints)
nothing_at false (pos k) = omega (arith, ints)
nothing_at false (negsuc k) = omega (arith, ints)

near_nothing : (text : List ℕ) (s : Significand) → IsSignificand (digits text) s → s.width ≡ 0 → IsNear text nought
near_nothing text s h none =
    let small : s.value < 10 ^ s.width = h.small (omega arith) in
    let one : 10 ^ s.width ≡ 1 = ap (λ (n : ℕ). 10 ^ n) none in
    let nothing : 0 ≡ s.value = omega arith in
    record {
      same = number_is text nought s (power text) h (omega arith) refl (subst (λ (v : ℕ). SameValue nought (times_power_of_ten (signed (starts_with_minus text) v) (power text))) nothing (nothing_at (starts_with_minus text) (power text)));
      positive = omega (arith, ints);
      num = omega arith;
      den = omega arith;
    }

near_some : (text : List ℕ) (s : Significand) → IsSignificand (digits text) s → (nat_lt 18 s.width || int_lt (power text) (neg_ℤ (pos 18)) || int_lt (pos 36) (pos s.width +ℤ power text)) ≡ false
    → IsNear text (times_power_of_ten (signed (starts_with_minus text) s.value) (power text))
near_some text s h within =
    let minus = starts_with_minus text in
    let limits = within_limits s.width (power text) (nat_lt 18 s.width || int_lt (power text) (neg_ℤ (pos 18)) || int_lt (pos 36) (pos s.width +ℤ power text)) refl within in
    let room = has_room minus s.value s.width (power text) (h.small limits.few) limits in
    record {
      same = number_is text (times_power_of_ten (signed minus s.value) (power text)) s (power text) h limits.few refl refl;
      positive = positive_den (signed minus s.value) (power text);
      num = room.num;
      den = room.den;
    }

near : (text : List ℕ) → is_wide text ≡ false → (f : Fraction) × IsNear text f
near text narrow =
    let found = significand_of text in
    let s = found.0 in
    let w = width (digits text) in
    elim (and_cases (nat_lt 0 w) (nat_lt 18 w || int_lt (power text) (neg_ℤ (pos 18)) || int_lt (pos 36) (pos w +ℤ power text)) narrow) [
      | inl none ↦ (nought, near_nothing text s found.1 (omega (arith, found.1.width_is, ltb-false 0 w none)))
      | inr within ↦ (
        times_power_of_ten (signed (starts_with_minus text) s.value) (power text),
        near_some text s found.1 (subst (λ (n : ℕ). (nat_lt 18 n || int_lt (power text) (neg_ℤ (pos 18)) || int_lt (pos 36) (pos n +ℤ power text)) ≡ false) (sym found.1.width_is) within),
      )
    ]

-- ---- numbers of decks

lowest_near : (text : List ℕ) (f : Fraction) → IsNear text f → IsDeckNumber (lowest_terms (spelled text))
lowest_near text f h =
    let g = spelled text in
    let a = lowest_is g (positive_den _ _) in
    let b = lowest_is f h.positive in
    let back : SameValue g (lowest_terms f) = SameValue-trans g f (lowest_terms f) h.positive (sym h.same) (sym b.same) in
    let same : SameValue (lowest_terms g) (lowest_terms f) = SameValue-trans (lowest_terms g) g (lowest_terms f) (positive_den _ _) a.same back in
    subst IsDeckNumber (sym (unique (lowest_terms g) (lowest_terms f) a.reduced b.reduced same)) (record { lowest = b.reduced; num = omega (arith, b.num, h.num); den = omega (arith, b.den, h.den) })

narrow_of : (decimal wide : Bool) → option_map why_no_number (cond decimal (cond wide (Some NumberWide) None) (Some NumberText)) ≡ None → wide ≡ false
narrow_of true true e = absurd cc
narrow_of true false e = refl
narrow_of false wide e = absurd cc

-- what a text without a fault spells
pub number_kept : (w : Name) → text_fault w ≡ None → IsDeckNumber (value_of w)
number_kept w e = let n = near w (narrow_of (is_decimal w) (is_wide w) e) in lowest_near w n.0 n.1

pub nought_kept : IsDeckNumber nought
nought_kept = record { lowest = record { positive = omega (arith, ints); lowest = gcd_is 0 1 }; num = omega arith; den = omega arith }
