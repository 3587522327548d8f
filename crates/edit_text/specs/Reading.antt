-- What the words of a line say, judged from the front: a command, or a reason against it.
use Rattle.std.specs.Prelude.{ℕ, ℤ, unsigned_abs, nat_lt, if◌then◌else◌, List, [], ◌∷◌, Ok, Err, codes, bytes_eq}
use Rattle.lp_base.specs.Numbers.{narrow_bound}
use Rattle.cert_text.specs.declared.fault.CertWhy.TheVariants.{BadLine, NumberWide}
use Rattle.cert_text.specs.Spelling.{Word, colon}
use Rattle.cert_text.specs.Splits.{split}
pub use Rattle.cert_text.specs.Reading.{◌>>=◌, Reading, after, ended, factor_at, first_at, whole_at}
use Rattle.edit_text.specs.declared.script.Command.{Command}
use Rattle.edit_text.specs.declared.script.Command.TheVariants.{Add, Tighten, Cost, Solve}
use Rattle.edit_text.specs.declared.script.Relation.{Relation}
use Rattle.edit_text.specs.declared.script.Relation.TheVariants.{Ge, Le, Eq}
use Rattle.edit_text.specs.Scripts.{Terms}

-- ---- words

abbrev pub narrow : ℤ → Reading ℤ
narrow z = if nat_lt (unsigned_abs z) narrow_bound then Ok z else Err NumberWide

unfoldable pub narrow_at : Word → Reading ℤ
narrow_at word = whole_at word >>= narrow

unfoldable pub relation_at : Word → Reading Relation
relation_at word =
    if bytes_eq word (codes "G") then Ok Ge else
    if bytes_eq word (codes "L") then Ok Le else
    if bytes_eq word (codes "E") then Ok Eq else Err BadLine

-- terms up to the end of the line
unfoldable pub terms_at : List Word → Reading Terms
terms_at [] = Ok []
terms_at (number ∷ []) = narrow_at number >>= λ n. Err BadLine
terms_at (number ∷ word ∷ words) = do
  n ← narrow_at number
  z ← factor_at word
  terms ← terms_at words
  Ok ((n, z) ∷ terms)

-- ---- lines, behind their first words

unfoldable pub add_at : List Word → Reading Command
add_at words = do
  first ← first_at words
  relation ← relation_at first.0
  second ← first_at first.1
  rhs ← narrow_at second.0
  rest ← after colon second.1
  terms ← terms_at rest
  Ok (Add relation rhs terms)

unfoldable pub tighten_at : List Word → Reading Command
tighten_at words = do
  first ← first_at words
  con ← narrow_at first.0
  second ← first_at first.1
  rhs ← narrow_at second.0
  _ ← ended second.1
  Ok (Tighten con rhs)

unfoldable pub cost_at : List Word → Reading Command
cost_at words = do
  rest ← after colon words
  terms ← terms_at rest
  Ok (Cost terms)

unfoldable pub solve_at : List Word → Reading Command
solve_at words = do
  _ ← ended words
  Ok Solve

-- the command of this first word, and the words behind it
unfoldable pub kind_at : Word → List Word → Reading Command
kind_at kind words =
    if bytes_eq kind (codes "add") then add_at words else
    if bytes_eq kind (codes "tighten") then tighten_at words else
    if bytes_eq kind (codes "cost") then cost_at words else
    if bytes_eq kind (codes "solve") then solve_at words else Err BadLine

unfoldable pub command_at : List Word → Reading Command
command_at words = first_at words >>= λ first. kind_at first.0 first.1

unfoldable pub command_in : List ℕ → Reading Command
command_in line = command_at (split 32 line)
