-- Whole numbers as decimal texts: they are read as they were written.
use Rattle.std.proofs.Common.{ℕ, suc, ◌+◌, ◌^◌, ◌<◌, ◌≤◌, ◌≡◌, Bool, true, false, not, ◌&&◌, ◌||◌, cond, eqb, List, [], ◌∷◌, length, take, drop, refl, sym, ap, subst, ◌∙◌, arith, Some, None, ℤ, pos, negsuc, neg_ℤ, ◌+ℤ◌, ◌-ℤ◌, ◌*ℤ◌, ◌≤ℤ◌}
use Rattle.std.specs.Prelude.{filter, count_by, unsigned_abs, nat_lt, nat_le, int_lt, option_map}
use Rattle.std.specs.Char.{is_ascii_digit}
use Rattle.std.specs.Fmt.{decimal, signed_decimal}
use Rattle.std.specs.Int.{IsGcd}
use Rattle.std.specs.List.{AllByRecursion, list_any, list_all, position_or_len, before_first, after_first}
use Rattle.std.specs.Str.Parse.{AllDigits, digits_value, signed_digits_value, starts_with_minus, without_leading_sign}
use Rattle.std.proofs.Math.Nat.{one-dvd}
use Rattle.std.proofs.lemmas.Bool.{and_from, and_right, or_from, or_left, le-leb, le-ltb, ne_eqb, false_from_ne_true}
use Rattle.std.proofs.lemmas.Fmt.{decimal_is_IsNumeral, length-decimal-le}
use Rattle.std.proofs.lemmas.Int.{ints}
use Rattle.std.proofs.lemmas.List.{drop_all, take_all}
use Rattle.std.proofs.lemmas.List.Sums.{suffix_len-le-length, sum_by-cons}
use Rattle.std.proofs.lemmas.Nat.Gcd.{dvd_refl}
use Rattle.std.proofs.lemmas.Str.Parse.{digit_from_value}
use Rattle.lp_nums.specs.Fractions.{Fraction, IsReduced, SameValue}
use Rattle.lp_nums.specs.Decimals.{is_exponent_mark, is_point, is_zero, is_digit_or_point, mantissa, exponent, has_exponent, is_mantissa, is_numeral, is_decimal, digits, last_power, signed, times_power_of_ten, spelled, without_front_zeros, back_zeros, width, power, is_wide}
use Rattle.lp_nums.specs.declared.decimals.NumberFault.TheVariants.{NumberText, NumberWide}
use Rattle.decks.specs.Numbers.{text_fault, value_of, why_no_number}
use Rattle.decks.proofs.Values.{value_is}
use Rattle.deck_print.specs.Printed.{IsWhole}

-- ---- digits

abbrev pub IsDigit : ℕ → Type 0
IsDigit c = (48 ≤ c) × (c ≤ 57)

abbrev pub AreDigits : List ℕ → Type 0
AreDigits ds = AllByRecursion IsDigit ds

pub are_digits : (ds : List ℕ) → AllDigits 10 ds → AreDigits ds
are_digits [] h = tt
are_digits (c ∷ cs) h = (digit_from_value c h.0, are_digits cs h.1)

-- a test that no digit passes
abbrev FailsDigits : (ℕ → Bool) → Type 0
FailsDigits p = (c : ℕ) → IsDigit c → p c ≡ false

no_mark : FailsDigits is_exponent_mark
no_mark c h = or_from (eqb c 69) (eqb c 101) (ne_eqb c 69 (λ e. omega (arith, e, h.1))) (ne_eqb c 101 (λ e. omega (arith, e, h.1)))

no_point : FailsDigits is_point
no_point c h = ne_eqb c 46 (λ e. omega (arith, e, h.0))

is_one : (c : ℕ) → IsDigit c → is_ascii_digit c ≡ true
is_one c h = and_from (nat_le 48 c) (nat_le c 57) (le-leb 48 c h.0) (le-leb c 57 h.1)

no_place : (p : ℕ → Bool) (ds : List ℕ) → FailsDigits p → AreDigits ds → position_or_len p ds ≡ length ds
no_place p [] f h = refl
no_place p (c ∷ cs) f h = ap (λ t. cond (not t) (1 + position_or_len p cs) 0) (f c h.0) ∙ (let z : 1 + position_or_len p cs ≡ suc (length cs) = omega (arith, no_place p cs f h.1) in z)

all_before : (p : ℕ → Bool) (ds : List ℕ) → FailsDigits p → AreDigits ds → before_first p ds ≡ ds
all_before p ds f h = ap (λ n. take n ds) (no_place p ds f h) ∙ take_all (length ds) ds (omega arith)

none_after : (p : ℕ → Bool) (ds : List ℕ) → FailsDigits p → AreDigits ds → after_first p ds ≡ []
none_after p ds f h = drop_all (position_or_len p ds + 1) ds (omega (arith, no_place p ds f h))

none_passes : (p : ℕ → Bool) (ds : List ℕ) → FailsDigits p → AreDigits ds → list_any p ds ≡ false
none_passes p [] f h = refl
none_passes p (c ∷ cs) f h = or_from (p c) (list_any p cs) (f c h.0) (none_passes p cs f h.1)

none_counted : (p : ℕ → Bool) (ds : List ℕ) → FailsDigits p → AreDigits ds → count_by p ds ≡ 0
none_counted p [] f h = refl
none_counted p (c ∷ cs) f h =
    sum_by-cons (λ d. cond (p d) 1 0) c cs ∙ ap (λ t. cond t 1 0 + count_by p cs) (f c h.0) ∙ (let z : 0 + count_by p cs ≡ 0 = omega (arith, none_counted p cs f h.1) in z)

each_kept : (ds : List ℕ) → AreDigits ds → filter is_ascii_digit ds ≡ ds
each_kept [] h = refl
each_kept (c ∷ cs) h = ap (λ t. cond t (c ∷ filter is_ascii_digit cs) (filter is_ascii_digit cs)) (is_one c h.0) ∙ ap (λ t. c ∷ t) (each_kept cs h.1)

each_good : (ds : List ℕ) → AreDigits ds → list_all is_digit_or_point ds ≡ true
each_good [] h = refl
each_good (c ∷ cs) h = and_from (is_digit_or_point c) (list_all is_digit_or_point cs) (or_left (is_ascii_digit c) (is_point c) (is_one c h.0)) (each_good cs h.1)

some_digit : (ds : List ℕ) → AreDigits ds → 0 < length ds → list_any is_ascii_digit ds ≡ true
some_digit [] h some = absurd (omega (arith, some))
some_digit (c ∷ cs) h some = or_left (is_ascii_digit c) (list_any is_ascii_digit cs) (is_one c h.0)

mantissa_fine : (ds : List ℕ) → AreDigits ds → 0 < length ds → is_mantissa ds ≡ true
mantissa_fine ds h some =
    and_from (list_any is_ascii_digit ds && list_all is_digit_or_point ds) (nat_le (count_by is_point ds) 1)
    (and_from (list_any is_ascii_digit ds) (list_all is_digit_or_point ds) (some_digit ds h some) (each_good ds h))
    (ap (λ n. nat_le n 1) (none_counted is_point ds no_point h))

-- ---- a text of a sign and digits

record IsPlainNumber (text ds : List ℕ) (minus : Bool) : Type 0 where
  pub unsigned : without_leading_sign text ≡ ds
  pub sign : starts_with_minus text ≡ minus
  pub digits : AreDigits ds
  pub some : 0 < length ds
  pub few : length ds ≤ 18

mantissa_is : (text ds : List ℕ) (minus : Bool) → IsPlainNumber text ds minus → mantissa text ≡ ds
mantissa_is text ds minus h = ap (before_first is_exponent_mark) h.unsigned ∙ all_before is_exponent_mark ds no_mark h.digits

exponent_is : (text ds : List ℕ) (minus : Bool) → IsPlainNumber text ds minus → exponent text ≡ []
exponent_is text ds minus h = ap (after_first is_exponent_mark) h.unsigned ∙ none_after is_exponent_mark ds no_mark h.digits

decimal_fine : (text ds : List ℕ) (minus : Bool) → IsPlainNumber text ds minus → is_decimal text ≡ true
decimal_fine text ds minus h =
    let none : has_exponent text ≡ false = ap (list_any is_exponent_mark) h.unsigned ∙ none_passes is_exponent_mark ds no_mark h.digits in
    and_from (is_mantissa (mantissa text)) (not (has_exponent text) || is_numeral (without_leading_sign (exponent text)))
    (ap is_mantissa (mantissa_is text ds minus h) ∙ mantissa_fine ds h.digits h.some)
    (ap (λ t. not t || is_numeral (without_leading_sign (exponent text))) none)

digits_are : (text ds : List ℕ) (minus : Bool) → IsPlainNumber text ds minus → digits text ≡ ds
digits_are text ds minus h = ap (filter is_ascii_digit) (mantissa_is text ds minus h) ∙ each_kept ds h.digits

power_is : (text ds : List ℕ) (minus : Bool) → IsPlainNumber text ds minus → last_power text ≡ pos 0
power_is text ds minus h =
    (λ i. signed_digits_value 10 (exponent_is text ds minus h i) -ℤ pos (length (after_first is_point (mantissa_is text ds minus h i))))
    ∙ ap (λ t. signed_digits_value 10 [] -ℤ pos (length t)) (none_after is_point ds no_point h.digits)

front_few : (ds : List ℕ) → length (without_front_zeros ds) ≤ length ds
front_few [] = omega arith
front_few (c ∷ cs) = by (is_zero c) (front_few cs)
  where
    by : (t : Bool) → length (without_front_zeros cs) ≤ length cs → length (cond t (without_front_zeros cs) (c ∷ cs)) ≤ suc (length cs)
    by true h = omega (arith, h)
    by false h = omega arith

not_less : (a b : ℤ) → b ≤ℤ a → int_lt a b ≡ false
not_less a b h = false_from_ne_true (int_lt a b) (λ e. omega (arith, ints, e, h))

narrow_by : (ds : List ℕ) (p : ℤ) → length ds ≤ 18 → p ≡ pos (back_zeros ds)
    → (nat_lt 0 (width ds) && (nat_lt 18 (width ds) || int_lt p (neg_ℤ (pos 18)) || int_lt (pos 36) (pos (width ds) +ℤ p))) ≡ false
narrow_by ds p few e =
    let w = width ds in
    let front : length (without_front_zeros ds) ≤ 18 = omega (arith, front_few ds, few) in
    let back : back_zeros ds ≤ length (without_front_zeros ds) = suffix_len-le-length is_zero (without_front_zeros ds) in
    let short : w ≤ 18 = omega (arith, front) in
    let high : w + back_zeros ds ≤ 36 = omega (arith, front, back) in
    and_right (nat_lt 0 w) (nat_lt 18 w || int_lt p (neg_ℤ (pos 18)) || int_lt (pos 36) (pos w +ℤ p))
    (or_from (nat_lt 18 w || int_lt p (neg_ℤ (pos 18))) (int_lt (pos 36) (pos w +ℤ p))
    (or_from (nat_lt 18 w) (int_lt p (neg_ℤ (pos 18))) (le-ltb 18 w short) (not_less p (neg_ℤ (pos 18)) (omega (arith, ints, e))))
    (not_less (pos 36) (pos w +ℤ p) (omega (arith, ints, e, high))))

narrow : (text ds : List ℕ) (minus : Bool) → IsPlainNumber text ds minus → is_wide text ≡ false
narrow text ds minus h =
    let same = digits_are text ds minus h in
    let here : power text ≡ pos (back_zeros ds) = ap (λ z. z +ℤ pos (back_zeros (digits text))) (power_is text ds minus h) ∙ ap (λ t. pos 0 +ℤ pos (back_zeros t)) same ∙ (let z : pos 0 +ℤ pos (back_zeros ds) ≡ pos (back_zeros ds) = omega (arith, ints) in z) in
    ap (λ t. nat_lt 0 (width t) && (nat_lt 18 (width t) || int_lt (power text) (neg_ℤ (pos 18)) || int_lt (pos 36) (pos (width t) +ℤ power text))) same
    ∙ narrow_by ds (power text) h.few here

no_fault : (text ds : List ℕ) (minus : Bool) → IsPlainNumber text ds minus → text_fault text ≡ None
no_fault text ds minus h =
    ap (λ t. option_map why_no_number (cond t (cond (is_wide text) (Some NumberWide) None) (Some NumberText))) (decimal_fine text ds minus h)
    ∙ ap (λ t. option_map why_no_number (cond t (Some NumberWide) None)) (narrow text ds minus h)

spelled_is : (text ds : List ℕ) (minus : Bool) → IsPlainNumber text ds minus → spelled text ≡ times_power_of_ten (signed minus (digits_value 10 ds)) (pos 0)
spelled_is text ds minus h = λ i. times_power_of_ten (signed (h.sign i) (digits_value 10 (digits_are text ds minus h i))) (power_is text ds minus h i)

-- ---- the text of a whole number

abbrev digits_of : ℤ → List ℕ
digits_of (pos n) = decimal n
digits_of (negsuc n) = decimal (suc n)

abbrev is_minus : ℤ → Bool
is_minus (pos n) = false
is_minus (negsuc n) = true

unsigned_is : (ds : List ℕ) → AreDigits ds → 0 < length ds → without_leading_sign ds ≡ ds
unsigned_is [] h some = absurd (omega (arith, some))
unsigned_is (c ∷ cs) h some =
    ap (λ t. cond t cs (drop (cond (eqb c 43) 1 0) (c ∷ cs))) (ne_eqb c 45 (λ e. omega (arith, e, h.0.0)))
    ∙ ap (λ t. drop (cond t 1 0) (c ∷ cs)) (ne_eqb c 43 (λ e. omega (arith, e, h.0.0)))

no_minus : (ds : List ℕ) → AreDigits ds → 0 < length ds → starts_with_minus ds ≡ false
no_minus [] h some = absurd (omega (arith, some))
no_minus (c ∷ cs) h some = ne_eqb c 45 (λ e. omega (arith, e, h.0.0))

plain_number : (z : ℤ) → unsigned_abs z < 10 ^ 18 → IsPlainNumber (signed_decimal z) (digits_of z) (is_minus z)
plain_number (pos n) l =
    let d = decimal_is_IsNumeral n (omega (arith, l)) in
    let ds = are_digits (decimal n) d.0.1 in
    record { unsigned = unsigned_is (decimal n) ds d.0.0; sign = no_minus (decimal n) ds d.0.0; digits = ds; some = d.0.0; few = length-decimal-le 18 n (omega arith) (omega (arith, l)) (omega (arith, l)) }
plain_number (negsuc n) l =
    let d = decimal_is_IsNumeral (suc n) (omega (arith, l)) in
    record { unsigned = refl; sign = refl; digits = are_digits (decimal (suc n)) d.0.1; some = d.0.0; few = length-decimal-le 18 (suc n) (omega arith) (omega (arith, l)) (omega (arith, l)) }

value_again : (z : ℤ) → unsigned_abs z < 10 ^ 18 → signed (is_minus z) (digits_value 10 (digits_of z)) ≡ z
value_again (pos n) l = ap pos (decimal_is_IsNumeral n (omega (arith, l))).1
value_again (negsuc n) l = ap (λ m. neg_ℤ (pos m)) (decimal_is_IsNumeral (suc n) (omega (arith, l))).1

same_whole : (f : Fraction) (m : ℤ) → f.den ≡ pos 1 → m ≡ f.num → SameValue f (times_power_of_ten m (pos 0))
same_whole f m d e = ap (λ z. f.num *ℤ z) (let z : pos 1 ≡ pos 1 = refl in z) ∙ (let z : f.num *ℤ pos 1 ≡ (f.num *ℤ pos 1) *ℤ pos 1 = omega (arith, ints) in z) ∙ (λ i. (sym e i *ℤ pos 1) *ℤ sym d i)

divided_by_one : (a b : ℕ) → b ≡ 1 → IsGcd a b 1
divided_by_one a b e = subst (λ n. IsGcd a n 1) (sym e) (one-dvd a, dvd_refl 1, λ d p q. q)

reduced_whole : (f : Fraction) → f.den ≡ pos 1 → IsReduced f
reduced_whole f e = record { positive = omega (arith, ints, e); lowest = divided_by_one (unsigned_abs f.num) (unsigned_abs f.den) (ap unsigned_abs e) }

pub fine_text : (f : Fraction) → IsWhole f → text_fault (signed_decimal f.num) ≡ None
fine_text f h = no_fault (signed_decimal f.num) (digits_of f.num) (is_minus f.num) (plain_number f.num h.few)

pub text_value : (f : Fraction) → IsWhole f → value_of (signed_decimal f.num) ≡ f
text_value f h =
    let n = plain_number f.num h.few in
    let same = spelled_is (signed_decimal f.num) (digits_of f.num) (is_minus f.num) n in
    sym (value_is (signed_decimal f.num) f (reduced_whole f h.whole)
    (ap (λ g. f.num *ℤ g.den) same ∙ same_whole f (signed (is_minus f.num) (digits_value 10 (digits_of f.num))) h.whole (value_again f.num h.few) ∙ ap (λ g. g.num *ℤ f.den) (sym same)))
