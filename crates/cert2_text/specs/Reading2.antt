-- What the words of a line of form 2 spell, judged word by word from the front.
use Rattle.std.specs.Prelude.{◌+◌, ℕ, ◌==◌, if◌then◌else◌, List, [], ◌∷◌, Option, Some, None, Ok, Err, codes, bytes_eq}
use Rattle.lp_base.specs.declared.limits.TheConstants.{LARGEST_WORD}
use Rattle.cert_text.specs.declared.fault.CertWhy.TheVariants.{BadLine}
use Rattle.cert_text.specs.Spelling.{Word, colon}
use Rattle.cert_text.specs.Reading.{Reading, ◌>>=◌, index_at, hint_at, from_least, after, first_at, choices_from, terms_from, hints_at, bound_at}
use Rattle.cert2_text.specs.declared.cert2.Cert2Line.{Cert2Line}
use Rattle.cert2_text.specs.declared.cert2.Cert2Line.TheVariants.{Shared, Ray, Point, Derived, Forget}

-- what stands behind `@` in a word that begins with it
abbrev pub list_word : Word → Option Word
list_word [] = None
list_word (b ∷ word) = if b == 64 then Some word else None

-- the list of a first word that names one, and the words behind it; else no list, and all words
abbrev pub list_by : Option Word → List Word → List Word → Reading (Option ℕ × List Word)
list_by None all rest = Ok (None, all)
list_by (Some number) all rest = hint_at number >>= λ h. Ok (Some h, rest)

unfoldable pub list_at : List Word → Reading (Option ℕ × List Word)
list_at [] = Ok (None, [])
list_at (word ∷ words) = list_by (list_word word) (word ∷ words) words

-- the number of a line, at least `least`
unfoldable pub dropped_at : ℕ → Word → Reading ℕ
dropped_at least word = index_at LARGEST_WORD word >>= from_least least

-- numbers that ascend from the least one on, up to the end of the line
unfoldable pub dropped_from : ℕ → List Word → Reading (List ℕ)
dropped_from least [] = Ok []
dropped_from least (word ∷ words) = do
  h ← dropped_at least word
  lines ← dropped_from (h + 1) words
  Ok (h ∷ lines)

-- at least one number
abbrev pub some_dropped : List ℕ → Reading Cert2Line
some_dropped [] = Err BadLine
some_dropped (h ∷ lines) = Ok (Forget (h ∷ lines))

unfoldable pub shared_at : List Word → Reading Cert2Line
shared_at words = do
  rest ← after colon words
  mult ← terms_from 0 rest
  Ok (Shared mult)

unfoldable pub ray2_at : List Word → Reading Cert2Line
ray2_at words = do
  choices ← choices_from 0 words
  list ← list_at choices.1
  mult ← terms_from 0 list.1
  Ok (Ray choices.0 list.0 mult)

unfoldable pub point2_at : List Word → Reading Cert2Line
point2_at words = do
  choices ← choices_from 0 words
  bound ← bound_at choices.1
  list ← list_at bound.1
  mult ← terms_from 0 list.1
  Ok (Point choices.0 bound.0 list.0 mult)

unfoldable pub derived2_at : List Word → Reading Cert2Line
derived2_at words = do
  choices ← choices_from 0 words
  hints ← hints_at choices.1
  Ok (Derived choices.0 hints)

unfoldable pub forget_at : List Word → Reading Cert2Line
forget_at words = dropped_from 0 words >>= some_dropped

-- the line of this first word, and the words behind it
unfoldable pub line2_by : Word → List Word → Reading Cert2Line
line2_by kind words =
    if bytes_eq kind (codes "i") then ray2_at words else
    if bytes_eq kind (codes "p") then point2_at words else
    if bytes_eq kind (codes "d") then derived2_at words else
    if bytes_eq kind (codes "m") then shared_at words else
    if bytes_eq kind (codes "x") then forget_at words else Err BadLine

unfoldable pub line2_at : List Word → Reading Cert2Line
line2_at words = first_at words >>= λ first. line2_by first.0 first.1
