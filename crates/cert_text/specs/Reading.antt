-- What words spell, judged word by word from the front: a value, or the first reason against it.
use Rattle.std.specs.Prelude.{◌+◌, ◌-◌, ◌^◌, ℕ, ℤ, pos, negsuc, neg_ℤ, unsigned_abs, ◌==◌, nat_lt, nat_le, if◌then◌else◌, List, [], ◌∷◌, length, take, slice_index, Option, Some, None, Result, Ok, Err, codes, bytes_eq}
use Rattle.std.specs.Char.{is_ascii_digit}
use Rattle.std.specs.Str.{all_ascii_digits}
use Rattle.std.specs.Str.Parse.{digits_value}
use Rattle.lp_base.specs.Numbers.{narrow_bound}
use Rattle.lp_base.specs.declared.limits.TheConstants.{LARGEST_WORD, MOST_PAIRS}
use Rattle.nogoods.specs.declared.choice.Choice.{Choice}
use Rattle.nogoods.specs.declared.choice.Side.{Side}
use Rattle.nogoods.specs.declared.choice.Side.TheVariants.{A, B}
use Rattle.cert_text.specs.declared.cert.CertPoint.{CertPoint}
use Rattle.cert_text.specs.declared.cert.CertLine.{CertLine}
use Rattle.cert_text.specs.declared.cert.CertLine.TheVariants.{Ray, Point, Derived}
use Rattle.cert_text.specs.declared.read.Kind.{Kind}
use Rattle.cert_text.specs.declared.read.Kind.TheVariants.{Optimal, Infeasible, Unbounded}
use Rattle.cert_text.specs.declared.fault.CertWhy.{CertWhy}
use Rattle.cert_text.specs.declared.fault.CertWhy.TheVariants.{BadLine, BadChoice, NumberWide, BadCount}
use Rattle.cert_text.specs.Spelling.{Word, colon}

abbrev pub Reading : Type 0 → Type 0
Reading X = Result X CertWhy

infixl 10 ◌>>=◌
abbrev pub ◌>>=◌ : {X Y E : Type 0} → Result X E → (X → Result Y E) → Result Y E
(Ok x) >>= f = f x
(Err e) >>= f = Err e

-- ---- numbers

-- digits
unfoldable pub digits_at : Word → Reading ℕ
digits_at word = if all_ascii_digits word then Ok (digits_value 10 word) else Err BadLine

-- a whole number of at least 0: digits, with no zero in front of others
unfoldable pub natural_at : Word → Reading ℕ
natural_at [] = Err BadLine
natural_at (b ∷ []) = digits_at (b ∷ [])
natural_at (b ∷ c ∷ word) = if b == 48 then Err BadLine else digits_at (b ∷ c ∷ word)

abbrev pub below_zero : ℕ → Reading ℤ
below_zero n = if n == 0 then Err BadLine else Ok (neg_ℤ (pos n))

-- a whole number: a minus may stand in front of digits other than `0`
unfoldable pub whole_at : Word → Reading ℤ
whole_at [] = Err BadLine
whole_at (b ∷ word) = if b == 45 then (natural_at word >>= below_zero) else (natural_at (b ∷ word) >>= λ n. Ok (pos n))

-- from 1 to the greatest. Texts count from 1, and certificates from 0.
abbrev pub counted : ℕ → ℕ → Reading ℕ
counted greatest n = if n == 0 then Err BadLine else if nat_lt greatest n then Err NumberWide else Ok (n - 1)

-- a number below zero is refused here as a word that is no number is
unfoldable pub index_at : ℕ → Word → Reading ℕ
index_at greatest word = natural_at word >>= counted greatest

-- narrow, and at least 1
abbrev pub positive : ℕ → Reading ℤ
positive n = if n == 0 then Err BadLine else if nat_lt n narrow_bound then Ok (pos n) else Err NumberWide

unfoldable pub positive_at : Word → Reading ℤ
positive_at word = natural_at word >>= positive

-- narrow, and not zero
abbrev pub factor : ℤ → Reading ℤ
factor z = if unsigned_abs z == 0 then Err BadLine else if nat_lt (unsigned_abs z) narrow_bound then Ok z else Err NumberWide

unfoldable pub factor_at : Word → Reading ℤ
factor_at word = whole_at word >>= factor

-- at most 2^126 in size
abbrev pub cost_value : ℤ → Reading ℤ
cost_value z = if nat_le (unsigned_abs z) (2 ^ 126) then Ok z else Err NumberWide

unfoldable pub cost_value_at : Word → Reading ℤ
cost_value_at word = whole_at word >>= cost_value

-- the number of no-good lines, of which there are n
abbrev pub count : ℕ → ℤ → Reading ℕ
count n (negsuc k) = Err BadCount
count n (pos k) = if nat_le (2 ^ 64) k then Err NumberWide else if k == n then Ok k else Err BadCount

unfoldable pub count_at : ℕ → Word → Reading ℕ
count_at n word = whole_at word >>= count n

-- ---- words

abbrev pub side_at : ℕ → Option Side
side_at letter = if letter == 97 then Some A else if letter == 98 then Some B else None

-- the side and the pair of a choice whose pair is at least `least`
abbrev pub chosen : ℕ → Option Side → Reading ℕ → Reading Choice
chosen least None pair = Err BadChoice
chosen least (Some side) (Err why) = Err BadChoice
chosen least (Some side) (Ok pair) = if nat_lt pair least then Err BadChoice else Ok (record { pair = pair; side = side })

-- a choice begins with a digit: the pair's number, from 1 to 512, and the letter of its side
unfoldable pub choice_at : ℕ → Word → Reading Choice
choice_at least word =
    if is_ascii_digit (slice_index word 0) then chosen least (side_at (slice_index word (length word - 1))) (index_at MOST_PAIRS (take (length word - 1) word))
    else Err BadLine

-- the number of a column or a constraint, at least `least`
abbrev pub from_least : ℕ → ℕ → Reading ℕ
from_least least n = if nat_lt n least then Err BadLine else Ok n

unfoldable pub number_at : ℕ → Word → Reading ℕ
number_at least word = index_at (2 ^ 32 - 1) word >>= from_least least

unfoldable pub hint_at : Word → Reading ℕ
hint_at word = index_at LARGEST_WORD word

-- ---- lists of words

-- what stands behind a first word that has to be this one
unfoldable pub after : Word → List Word → Reading (List Word)
after wanted [] = Err BadLine
after wanted (word ∷ words) = if bytes_eq word wanted then Ok words else Err BadLine

-- no word is left
unfoldable pub ended : List Word → Reading (List Word)
ended [] = Ok []
ended (word ∷ words) = Err BadLine

-- choices up to the colon, their pairs ascending from the least one on, and what stands behind it
unfoldable pub choices_from : ℕ → List Word → Reading (List Choice × List Word)
choices_from least [] = Err BadLine
choices_from least (word ∷ words) =
    if bytes_eq word colon then Ok ([], words) else do
      c ← choice_at least word
      found ← choices_from (c.pair + 1) words
      Ok (c ∷ found.0, found.1)

-- choices up to the end of the line
unfoldable pub last_choices_from : ℕ → List Word → Reading (List Choice)
last_choices_from least [] = Ok []
last_choices_from least (word ∷ words) = do
  c ← choice_at least word
  choices ← last_choices_from (c.pair + 1) words
  Ok (c ∷ choices)

-- numbers that ascend from the least one on, each with another that is not zero, up to the end of the line
unfoldable pub terms_from : ℕ → List Word → Reading (List (ℕ × ℤ))
terms_from least [] = Ok []
terms_from least (number ∷ []) = number_at least number >>= λ n. Err BadLine
terms_from least (number ∷ word ∷ words) = do
  n ← number_at least number
  z ← factor_at word
  terms ← terms_from (n + 1) words
  Ok ((n, z) ∷ terms)

unfoldable pub hints_at : List Word → Reading (List ℕ)
hints_at [] = Ok []
hints_at (word ∷ words) = do
  h ← hint_at word
  hints ← hints_at words
  Ok (h ∷ hints)

-- ---- lines

-- the kind that the second content line names
unfoldable pub kind_at : List ℕ → Reading Kind
kind_at line =
    if bytes_eq line (codes "optimal") then Ok Optimal else
    if bytes_eq line (codes "infeasible") then Ok Infeasible else
    if bytes_eq line (codes "unbounded") then Ok Unbounded else Err BadLine

-- a positive number with a colon behind it, and what stands behind that
unfoldable pub bound_at : List Word → Reading (ℤ × List Word)
bound_at [] = Err BadLine
bound_at (word ∷ words) = do
  e ← positive_at word
  rest ← after colon words
  Ok (e, rest)

unfoldable pub point_at : List Word → Reading CertPoint
point_at words = do
  rest ← after (codes "point") words
  bound ← bound_at rest
  terms ← terms_from 0 bound.1
  Ok (record { d = bound.0; terms = terms })

-- the first word that is left
unfoldable pub first_at : List Word → Reading (Word × List Word)
first_at [] = Err BadLine
first_at (word ∷ words) = Ok (word, words)

unfoldable pub value_at : List Word → Reading ℤ
value_at words = do
  rest ← after (codes "value") words
  first ← first_at rest
  z ← cost_value_at first.0
  _ ← ended first.1
  Ok z

unfoldable pub piece_at : List Word → Reading (List Choice)
piece_at words = do
  rest ← after (codes "piece") words
  last_choices_from 0 rest

unfoldable pub ray_at : List Word → Reading (List (ℕ × ℤ))
ray_at words = do
  rest ← after (codes "ray") words
  terms ← after colon rest
  terms_from 0 terms

unfoldable pub ray_cut_at : List Word → Reading CertLine
ray_cut_at words = do
  choices ← choices_from 0 words
  mult ← terms_from 0 choices.1
  Ok (Ray choices.0 mult)

unfoldable pub point_cut_at : List Word → Reading CertLine
point_cut_at words = do
  choices ← choices_from 0 words
  bound ← bound_at choices.1
  mult ← terms_from 0 bound.1
  Ok (Point choices.0 bound.0 mult)

unfoldable pub derived_at : List Word → Reading CertLine
derived_at words = do
  choices ← choices_from 0 words
  hints ← hints_at choices.1
  Ok (Derived choices.0 hints)

-- the no-good line of this first word, and the words behind it
unfoldable pub cut_at : Word → List Word → Reading CertLine
cut_at kind words =
    if bytes_eq kind (codes "i") then ray_cut_at words else
    if bytes_eq kind (codes "p") then point_cut_at words else
    if bytes_eq kind (codes "d") then derived_at words else Err BadLine

unfoldable pub line_at : List Word → Reading CertLine
line_at words = first_at words >>= λ first. cut_at first.0 first.1

-- the last line, behind n no-good lines
unfoldable pub end_at : ℕ → List Word → Reading ℕ
end_at n words = do
  rest ← after (codes "end") words
  first ← first_at rest
  k ← count_at n first.0
  _ ← ended first.1
  Ok k
