-- What the words of a line say, judged from the front: a value, or the reason against it.
use Rattle.std.specs.Prelude.{◌+◌, ◌-◌, ℕ, ℤ, pos, unsigned_abs, Bool, ◌==◌, ◌&&◌, nat_lt, nat_le, if◌then◌else◌, List, [], ◌∷◌, length, Result, Ok, Err, codes, bytes_eq}
use Rattle.std.specs.List.{list_all}
use Rattle.lp_base.specs.declared.limits.TheConstants.{LARGEST_OF_CASE}
use Rattle.cert_text.specs.declared.fault.CertWhy.{CertWhy}
use Rattle.cert_text.specs.Capped.{capped_natural_at, capped_whole_at}
pub use Rattle.cert_text.specs.Reading.{◌>>=◌}
use Rattle.cert_text.specs.Spelling.{Word, colon}
use Rattle.front_text.specs.declared.fault.FrontWhy.{FrontWhy}
use Rattle.front_text.specs.declared.fault.FrontWhy.TheVariants.{BadLine, NoSuch, Wide, TooMany}
use Rattle.front_text.specs.Problems.{Counts, Terms, are_few, fits, lcp_counts}

abbrev pub Reading : Type 0 → Type 0
Reading X = Result X FrontWhy

-- ---- numbers: whole numbers as certificates spell them; one past 10^38 in size counts as 10^38

abbrev pub in_form : {X : Type 0} → Result X CertWhy → Reading X
in_form (Ok x) = Ok x
in_form (Err why) = Err BadLine

unfoldable pub natural_in : Word → Reading ℕ
natural_in word = in_form (capped_natural_at word)

unfoldable pub whole_in : Word → Reading ℤ
whole_in word = in_form (capped_whole_at word)

abbrev pub positive : ℕ → Reading ℕ
positive n = if n == 0 then Err BadLine else Ok n

unfoldable pub positive_in : Word → Reading ℕ
positive_in word = natural_in word >>= positive

-- a variable behind the first `least` ones; texts count from 1
abbrev pub from_least : ℕ → ℕ → Reading ℕ
from_least least n = if nat_le n least then Err BadLine else Ok (n - 1)

unfoldable pub number_in : ℕ → Word → Reading ℕ
number_in least word = natural_in word >>= from_least least

abbrev pub nonzero : ℤ → Reading ℤ
nonzero z = if unsigned_abs z == 0 then Err BadLine else Ok z

unfoldable pub factor_in : Word → Reading ℤ
factor_in word = whole_in word >>= nonzero

-- ---- words

-- what stands behind a first word that has to be this one
unfoldable pub after : Word → List Word → Reading (List Word)
after wanted [] = Err BadLine
after wanted (word ∷ words) = if bytes_eq word wanted then Ok words else Err BadLine

-- the first word that is left
unfoldable pub first_in : List Word → Reading (Word × List Word)
first_in [] = Err BadLine
first_in (word ∷ words) = Ok (word, words)

-- no word is left
unfoldable pub ended : List Word → Reading (List Word)
ended [] = Ok []
ended (word ∷ words) = Err BadLine

-- variables that ascend from the least one on, each with a number that is not 0, up to the end of the line
unfoldable pub terms_from : ℕ → List Word → Reading Terms
terms_from least [] = Ok []
terms_from least (number ∷ []) = number_in least number >>= λ n. Err BadLine
terms_from least (number ∷ word ∷ words) = do
  n ← number_in least number
  z ← factor_in word
  terms ← terms_from (n + 1) words
  Ok ((n, z) ∷ terms)

-- ---- what is judged behind the form of a line: whether variables are there, then whether numbers fit a case

abbrev pub is_below : ℕ → ℕ × ℤ → Bool
is_below count t = nat_lt t.0 count

abbrev pub has_fitting : ℕ × ℤ → Bool
has_fitting t = fits t.1

abbrev pub names_all : ℕ → Terms → Bool
names_all count ts = list_all (is_below count) ts

abbrev pub fit_all : Terms → Bool
fit_all ts = list_all has_fitting ts

-- a number with terms
abbrev pub Bounded : Type 0
Bounded = ℤ × Terms

-- the terms name variables among the first `count`, and all numbers fit a case
abbrev pub is_judged : ℕ → Bounded → Bool
is_judged count x = names_all count x.1 && (fits x.0 && fit_all x.1)

abbrev pub are_judged : ℕ → List Bounded → Bool
are_judged count xs = list_all (is_judged count) xs

unfoldable pub judged : ℕ → ℤ → Terms → Reading Bounded
judged count b ts = if names_all count ts then (if fits b && fit_all ts then Ok (b, ts) else Err Wide) else Err NoSuch

-- ---- lines

abbrev pub sized : ℕ → Reading ℕ
sized n = if nat_le n LARGEST_OF_CASE then Ok n else Err Wide

abbrev pub both_sized : ℕ → ℕ → Reading (ℕ × ℕ)
both_sized nx ny = if nat_le nx LARGEST_OF_CASE && nat_le ny LARGEST_OF_CASE then Ok (nx, ny) else Err Wide

unfoldable pub size_at : List Word → Reading ℕ
size_at words = do
  rest ← after (codes "size") words
  first ← first_in rest
  n ← positive_in first.0
  _ ← ended first.1
  sized n

unfoldable pub sizes_at : List Word → Reading (ℕ × ℕ)
sizes_at words = do
  rest ← after (codes "sizes") words
  first ← first_in rest
  nx ← positive_in first.0
  second ← first_in first.1
  ny ← positive_in second.0
  _ ← ended second.1
  both_sized nx ny

-- terms that name variables from `least` on and below `count`
unfoldable pub combination_at : Word → ℕ → ℕ → List Word → Reading Terms
combination_at kind least count words = do
  rest ← after kind words
  terms ← after colon rest
  ts ← terms_from least terms
  found ← judged count (pos 0) ts
  Ok found.1

-- a number, and terms
unfoldable pub bounded_at : Word → ℕ → List Word → Reading Bounded
bounded_at kind count words = do
  rest ← after kind words
  first ← first_in rest
  b ← whole_in first.0
  terms ← after colon first.1
  ts ← terms_from 0 terms
  judged count b ts

-- the number of row k, counted from 0, of n rows
abbrev pub row_number : ℕ → ℕ → ℕ → Reading ℕ
row_number n k i = if i == k + 1 && nat_lt k n then Ok i else Err BadLine

unfoldable pub row_at : ℕ → ℕ → List Word → Reading Bounded
row_at n k words = do
  rest ← after (codes "row") words
  first ← first_in rest
  i ← natural_in first.0
  _ ← row_number n k i
  terms ← after colon first.1
  ts ← terms_from 0 terms
  judged n (pos 0) ts

-- the last line, behind which the deck is known to keep the limits
unfoldable pub end_at : Counts → List Word → Reading (List Word)
end_at counts words = do
  rest ← after (codes "end") words
  _ ← ended rest
  if are_few counts then Ok [] else Err TooMany

-- the last line of a problem of size n, behind these rows
unfoldable pub lcp_end_at : ℕ → List Terms → List Word → Reading (List Word)
lcp_end_at n rows words = if length rows == n then end_at (lcp_counts n rows) words else Err BadLine
