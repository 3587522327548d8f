-- Under `yes`: decimal numbers as texts of bytes, and what they spell.
use Rattle.std.specs.Prelude.{ℕ, suc, ◌-◌, ◌^◌, Bool, not, ◌&&◌, ◌||◌, cond, ◌==◌, nat_lt, nat_le, List, [], ◌∷◌, length, filter, count_by, ℤ, pos, negsuc, neg_ℤ, ◌+ℤ◌, ◌-ℤ◌, ◌*ℤ◌, int_lt}
use Rattle.std.specs.List.{list_any, list_all, before_first, after_first, suffix_len}
use Rattle.std.specs.Char.{is_ascii_digit}
use Rattle.std.specs.Str.Parse.{digits_value, signed_digits_value, starts_with_minus, without_leading_sign}
use Rattle.std.specs.Int.{int_min, int_max}
use Rattle.lp_nums.specs.Fractions.{Fraction}

-- 'E' or 'e'
abbrev pub is_exponent_mark : ℕ → Bool
is_exponent_mark c = (c == 69) || (c == 101)

-- '.'
abbrev pub is_point : ℕ → Bool
is_point c = c == 46

-- '0'
abbrev pub is_zero : ℕ → Bool
is_zero c = c == 48

abbrev pub is_digit_or_point : ℕ → Bool
is_digit_or_point c = is_ascii_digit c || is_point c

-- ---- the form

-- what stands behind the sign and before the first exponent mark
abbrev pub mantissa : List ℕ → List ℕ
mantissa text = before_first is_exponent_mark (without_leading_sign text)

-- what stands behind that mark: nothing where there is none
abbrev pub exponent : List ℕ → List ℕ
exponent text = after_first is_exponent_mark (without_leading_sign text)

abbrev pub has_exponent : List ℕ → Bool
has_exponent text = list_any is_exponent_mark (without_leading_sign text)

-- digits with at most one point, and at least one digit
abbrev pub is_mantissa : List ℕ → Bool
is_mantissa m = list_any is_ascii_digit m && list_all is_digit_or_point m && nat_le (count_by is_point m) 1

-- one digit or more, and nothing else
abbrev pub is_numeral : List ℕ → Bool
is_numeral ds = not (length ds == 0) && list_all is_ascii_digit ds

-- an optional sign and a mantissa, and optionally an exponent mark, an optional sign and a numeral
abbrev pub is_decimal : List ℕ → Bool
is_decimal text = is_mantissa (mantissa text) && (not (has_exponent text) || is_numeral (without_leading_sign (exponent text)))

-- ---- the number

abbrev pub digits : List ℕ → List ℕ
digits text = filter is_ascii_digit (mantissa text)

-- how many digits stand behind the point
abbrev pub scale : List ℕ → ℕ
scale text = length (after_first is_point (mantissa text))

-- the power of ten that the last digit counts
abbrev pub last_power : List ℕ → ℤ
last_power text = signed_digits_value 10 (exponent text) -ℤ pos (scale text)

-- z, or the end of the numbers from -far to far that is nearer
abbrev pub clamped : ℕ → ℤ → ℤ
clamped far z = int_max (neg_ℤ (pos far)) (int_min (pos far) z)

abbrev pub signed : Bool → ℕ → ℤ
signed minus n = cond minus (neg_ℤ (pos n)) (pos n)

-- m times 10 to the power k
abbrev pub times_power_of_ten : ℤ → ℤ → Fraction
times_power_of_ten m (pos k) = record { num = m *ℤ pos (10 ^ k); den = pos 1 }
times_power_of_ten m (negsuc k) = record { num = m; den = pos (10 ^ suc k) }

-- the number that a decimal text spells
abbrev pub spelled : List ℕ → Fraction
spelled text = times_power_of_ten (signed (starts_with_minus text) (digits_value 10 (digits text))) (last_power text)

-- ---- how wide it is

abbrev pub without_front_zeros : List ℕ → List ℕ
without_front_zeros [] = []
without_front_zeros (c ∷ cs) = cond (is_zero c) (without_front_zeros cs) (c ∷ cs)

-- the zeros at the back that stand behind another digit
abbrev pub back_zeros : List ℕ → ℕ
back_zeros ds = suffix_len is_zero (without_front_zeros ds)

-- the number of digits that are left without the zeros at the front and at the back
abbrev pub width : List ℕ → ℕ
width ds = length (without_front_zeros ds) - back_zeros ds

-- the power of ten that the last of those counts
abbrev pub power : List ℕ → ℤ
power text = last_power text +ℤ pos (back_zeros (digits text))

-- some digit is left, and there are more than 18, or the last counts less than 10 ^ -18, or the first 10 ^ 36 or more
abbrev pub is_wide : List ℕ → Bool
is_wide text = nat_lt 0 (width (digits text)) && (nat_lt 18 (width (digits text)) || int_lt (power text) (neg_ℤ (pos 18)) || int_lt (pos 36) (pos (width (digits text)) +ℤ power text))
