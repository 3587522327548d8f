-- Numbers as the code reads them: one that is past every limit of the text counts as 10^38.
use Rattle.std.specs.Prelude.{◌+◌, ◌-◌, ◌*◌, ◌^◌, ℕ, ℤ, pos, negsuc, suc, neg_ℤ, nat_lt, if◌then◌else◌, [], ◌∷◌, Ok, Err}
use Rattle.std.specs.Char.{is_ascii_digit}
use Rattle.cert_text.specs.declared.fault.CertWhy.TheVariants.{BadLine}
use Rattle.cert_text.specs.Spelling.{Word}
use Rattle.cert_text.specs.Reading.{Reading, ◌>>=◌, digits_at, natural_at, below_zero, whole_at}

abbrev pub most : ℕ
most = 10 ^ 38

abbrev pub cap : ℕ → ℕ
cap n = if nat_lt n most then n else most

abbrev pub capped : ℕ → Reading ℕ
capped n = Ok (cap n)

abbrev pub capped_whole : ℤ → Reading ℤ
capped_whole (pos n) = Ok (pos (cap n))
capped_whole (negsuc n) = Ok (neg_ℤ (pos (cap (suc n))))

-- one more digit behind those of n
abbrev pub with_digit : ℕ → ℕ → Reading ℕ
with_digit n byte = if is_ascii_digit byte then capped (n * 10 + (byte - 48)) else Err BadLine

abbrev pub digits_from : ℕ → Word → Reading ℕ
digits_from n [] = Ok n
digits_from n (byte ∷ word) = with_digit n byte >>= λ m. digits_from m word

abbrev pub capped_digits_at : Word → Reading ℕ
capped_digits_at word = digits_at word >>= capped

abbrev pub capped_natural_at : Word → Reading ℕ
capped_natural_at word = natural_at word >>= capped

abbrev pub capped_whole_at : Word → Reading ℤ
capped_whole_at word = whole_at word >>= capped_whole

-- a minus stands in front of the word
abbrev pub negative_at : Word → Reading ℤ
negative_at word = capped_natural_at word >>= below_zero

abbrev pub nonnegative_at : Word → Reading ℤ
nonnegative_at word = capped_natural_at word >>= λ n. Ok (pos n)
