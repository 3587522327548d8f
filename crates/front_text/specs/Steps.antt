-- Reading a problem line by line: the value of the lines, or the first fault with its line.
use Rattle.std.specs.Prelude.{◌+◌, ℕ, Bool, false, if◌then◌else◌, List, [], ◌∷◌, map, slice_index_or, Result, Ok, Err, codes, bytes_eq}
use Rattle.cert_text.specs.Splits.{split}
use Rattle.cert_text.specs.Spelling.{Word}
use Rattle.front_text.specs.declared.fault.FrontWhy.{FrontWhy}
use Rattle.front_text.specs.declared.fault.FrontWhy.TheVariants.{BadHead, NotEnded, AfterEnd}
use Rattle.front_text.specs.declared.problem.Bilevel.{Bilevel}
use Rattle.front_text.specs.declared.problem.Lcp.{Lcp}
use Rattle.front_text.specs.declared.problem.Line.{Line}
use Rattle.front_text.specs.Lines.{is_cut, lines_in}
use Rattle.front_text.specs.Problems.{Terms, bilevel_counts, coefficients}
use Rattle.front_text.specs.Reading.{◌>>=◌, Bounded, Reading, bounded_at, combination_at, end_at, lcp_end_at, row_at, size_at, sizes_at}

-- a value, or the number of a line with its fault
abbrev pub Found : Type 0 → Type 0
Found X = Result X (ℕ × FrontWhy)

-- the lines that are left behind those that were taken
pub record Left : Type 0 where
  pub taken : ℕ
  pub lines : List (List ℕ)
  pub cut : Bool

abbrev pub all_lines : List ℕ → Left
all_lines text = record { taken = 0; lines = lines_in text; cut = is_cut text }

-- without its first line
abbrev pub behind : Left → List (List ℕ) → Left
behind left lines = record { taken = left.taken + 1; lines = lines; cut = left.cut }

-- what was read, with the number of its line
abbrev pub at : {X : Type 0} → ℕ → Reading X → Found X
at line (Ok x) = Ok x
at line (Err why) = Err (line, why)

abbrev pub words : List ℕ → List Word
words line = split 32 line

-- ---- lines

abbrev pub first_of : Left → List (List ℕ) → Found (List ℕ × Left)
first_of left [] = Err (left.taken + 1, NotEnded)
first_of left (line ∷ lines) = Ok (line, behind left lines)

unfoldable pub whole_line : Left → Found (List ℕ × Left)
whole_line left = first_of left left.lines

-- a line that is read so, and what is left behind it
unfoldable pub line_as : {X : Type 0} → (List Word → Reading X) → Left → Found (X × Left)
line_as read left = do
  line ← whole_line left
  x ← at line.1.taken (read (words line.0))
  Ok (x, line.1)

abbrev pub head_of : List ℕ → Left → List (List ℕ) → Found Left
head_of head left [] = Err (left.taken + 1, BadHead)
head_of head left (line ∷ lines) = if bytes_eq line head then Ok (behind left lines) else Err (left.taken + 1, BadHead)

unfoldable pub head_step : List ℕ → Left → Found Left
head_step head left = head_of head left left.lines

abbrev pub begins : Word → List ℕ → Bool
begins kind line = bytes_eq (slice_index_or (words line) 0 []) kind

abbrev pub next_begins : Word → List (List ℕ) → Bool
next_begins kind [] = false
next_begins kind (line ∷ lines) = begins kind line

-- the next lines as far as they begin with this word, each read by its place among them, and what is left
unfoldable pub section_from : {X : Type 0} → Word → (ℕ → List Word → Reading X) → ℕ → Left → List (List ℕ) → Found (List X × Left)
section_from kind read k left [] = Ok ([], left)
section_from kind read k left (line ∷ lines) =
    if begins kind line then (at (left.taken + 1) (read k (words line)) >>= λ x. section_from kind read (k + 1) (behind left lines) lines >>= λ found. Ok (x ∷ found.0, found.1))
    else Ok ([], left)

unfoldable pub section_step : {X : Type 0} → Word → (ℕ → List Word → Reading X) → ℕ → Left → Found (List X × Left)
section_step kind read k left = section_from kind read k left left.lines

-- nothing is left
abbrev pub over_of : Left → List (List ℕ) → Found Left
over_of left [] = if left.cut then Err (left.taken + 1, AfterEnd) else Ok left
over_of left (line ∷ lines) = Err (left.taken + 1, AfterEnd)

unfoldable pub behind_end : Left → Found Left
behind_end left = over_of left left.lines

-- ---- texts

abbrev pub terms_in : List Bounded → List Terms
terms_in xs = map (λ x. x.1) xs

abbrev pub lcp_of : ℕ → Terms → List Bounded → Lcp
lcp_of n q rows = record { size = n; q = coefficients 0 n q; rows = terms_in rows }

unfoldable pub lcp_at : Left → Found Lcp
lcp_at left = do
  head ← head_step (codes "lpcc-lcp 1") left
  size ← line_as size_at head
  q ← line_as (combination_at (codes "q") 0 size.0) size.1
  rows ← section_step (codes "row") (row_at size.0) 0 q.1
  end ← line_as (lcp_end_at size.0 (terms_in rows.0)) rows.1
  _ ← behind_end end.1
  Ok (lcp_of size.0 q.0 rows.0)

abbrev pub line_of : Bounded → Line
line_of x = record { rhs = x.0; terms = x.1 }

abbrev pub bilevel_of : ℕ → ℕ → Terms → Terms → List Bounded → List Bounded → Bilevel
bilevel_of nx ny cost follow up low = record {
  nx = nx;
  ny = ny;
  cost = coefficients 0 (nx + ny) cost;
  follow = coefficients nx ny follow;
  up = map line_of up;
  low = map line_of low;
}

abbrev pub bounded_in : Word → ℕ → ℕ → List Word → Reading Bounded
bounded_in kind count k words = bounded_at kind count words

-- behind all lines of `low`
unfoldable pub bilevel_rest : ℕ × ℕ → Terms → Terms → List Bounded → List Bounded → Left → Found Bilevel
bilevel_rest n cost follow up low left = do
  end ← line_as (end_at (bilevel_counts n.0 n.1 (terms_in up) (terms_in low))) left
  _ ← behind_end end.1
  Ok (bilevel_of n.0 n.1 cost follow up low)

-- behind `follow`
unfoldable pub bilevel_lines : ℕ × ℕ → Terms → Terms → Left → Found Bilevel
bilevel_lines n cost follow left = do
  up ← section_step (codes "up") (bounded_in (codes "up") (n.0 + n.1)) 0 left
  low ← section_step (codes "low") (bounded_in (codes "low") (n.0 + n.1)) 0 up.1
  bilevel_rest n cost follow up.0 low.0 low.1

-- behind the sizes
unfoldable pub bilevel_costs : ℕ × ℕ → Left → Found Bilevel
bilevel_costs n left = do
  cost ← line_as (combination_at (codes "cost") 0 (n.0 + n.1)) left
  follow ← line_as (combination_at (codes "follow") n.0 (n.0 + n.1)) cost.1
  bilevel_lines n cost.0 follow.0 follow.1

unfoldable pub bilevel_at : Left → Found Bilevel
bilevel_at left = do
  head ← head_step (codes "lpcc-bilevel 1") left
  sizes ← line_as sizes_at head
  bilevel_costs sizes.0 sizes.1
