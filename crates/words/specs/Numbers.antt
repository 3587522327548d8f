-- Words that are numbers.
use Rattle.std.specs.Prelude.{◌+◌, ◌*◌, ◌-◌, ◌&&◌, nat_le, if◌then◌else◌, ℕ, Bool, List, [], ◌∷◌, length, Option, None, Some}
use Rattle.std.specs.Char.{is_ascii_digit}
use Rattle.std.specs.List.{list_all}

-- one to nineteen digits
abbrev pub is_numeral : List ℕ → Bool
is_numeral w = nat_le 1 (length w) && nat_le (length w) 19 && list_all is_ascii_digit w

-- the number that digits write when they follow those of n
abbrev pub value_after : ℕ → List ℕ → ℕ
value_after n [] = n
value_after n (d ∷ ds) = value_after (n * 10 + (d - 48)) ds

abbrev pub value_of : List ℕ → ℕ
value_of w = value_after 0 w

-- the number of the word, where it is one from the least to the most
abbrev pub number_in : ℕ → ℕ → List ℕ → Option ℕ
number_in least most w = if is_numeral w && nat_le least (value_of w) && nat_le (value_of w) most then Some (value_of w) else None
