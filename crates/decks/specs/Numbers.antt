-- Under `yes`: the numbers of a deck: decimal texts, as fractions in lowest terms.
use Rattle.std.specs.Prelude.{ℕ, zero, suc, ◌%◌, ◌==◌, Bool, false, if◌then◌else◌, Option, Some, None, ℤ, pos, neg_ℤ, ◌*ℤ◌, int_div, int_le, int_lt, unsigned_abs, option_map}
use Rattle.std.specs.Ordering.{int_eq}
use Rattle.lp_base.specs.declared.limits.TheConstants.{NO_BOUND_FROM}
use Rattle.lp_nums.specs.Fractions.{Fraction}
use Rattle.lp_nums.specs.Decimals.{spelled}
use Rattle.lp_nums.specs.NumberFaults.{number_fault}
use Rattle.lp_nums.specs.declared.decimals.NumberFault.{NumberFault}
use Rattle.lp_nums.specs.declared.decimals.NumberFault.TheVariants as number
use Rattle.mps_lex.specs.Kinds.{Name}
use Rattle.decks.specs.declared.fault.DeckWhy.{DeckWhy}
use Rattle.decks.specs.declared.fault.DeckWhy.TheVariants.{NumberText, NumberWide}

-- by Euclid's rule, in at most so many steps
abbrev pub common_divisor_within : ℕ → ℕ → ℕ → ℕ
common_divisor_within zero a b = a
common_divisor_within (suc steps) a b = if b == 0 then a else common_divisor_within steps b (a % b)

-- the greatest common divisor
abbrev pub common_divisor : ℕ → ℕ → ℕ
common_divisor a b = common_divisor_within (suc b) a b

abbrev pub divided : Fraction → ℤ → Fraction
divided f d = record { num = int_div f.num d; den = int_div f.den d }

unfoldable pub lowest_terms : Fraction → Fraction
lowest_terms f = divided f (pos (common_divisor (unsigned_abs f.num) (unsigned_abs f.den)))

-- the value of a decimal text
abbrev pub value_of : Name → Fraction
value_of w = lowest_terms (spelled w)

abbrev pub why_no_number : NumberFault → DeckWhy
why_no_number number.NumberText = NumberText
why_no_number number.NumberWide = NumberWide

-- why a text is no number of a deck
abbrev pub text_fault : Name → Option DeckWhy
text_fault w = option_map why_no_number (number_fault w)

-- whether there is an end, and it is 0
abbrev pub is_zero : Option Fraction → Bool
is_zero None = false
is_zero (Some f) = int_eq f.num (pos 0)

-- whether there is an end below 0
abbrev pub is_negative : Option Fraction → Bool
is_negative None = false
is_negative (Some f) = int_lt f.num (pos 0)

-- a value of at least 10^20 is no upper bound
abbrev pub upper_end : Fraction → Option Fraction
upper_end f = if int_le (pos NO_BOUND_FROM *ℤ f.den) f.num then None else Some f

-- a value of at most -10^20 is no lower bound
abbrev pub lower_end : Fraction → Option Fraction
lower_end f = if int_le f.num (neg_ℤ (pos NO_BOUND_FROM *ℤ f.den)) then None else Some f
