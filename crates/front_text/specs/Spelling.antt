-- The one spelling of each problem, as lines of words.
use Rattle.std.specs.Prelude.{◌+◌, ◌==◌, if◌then◌else◌, ℕ, ℤ, List, [], ◌∷◌, ◌++◌, map, flat_map, unsigned_abs, codes}
use Rattle.std.specs.Fmt.{decimal, signed_decimal}
use Rattle.cert_text.specs.Spelling.{Word, colon, line_bytes, term_words, text_of}
use Rattle.front_text.specs.declared.problem.Bilevel.{Bilevel}
use Rattle.front_text.specs.declared.problem.Lcp.{Lcp}
use Rattle.front_text.specs.declared.problem.Line.{Line}
use Rattle.front_text.specs.Problems.{Terms}

-- the numbers that are not 0, with their variables, of which the first is this one
abbrev pub sparse : ℕ → List ℤ → Terms
sparse first [] = []
sparse first (v ∷ vs) = if unsigned_abs v == 0 then sparse (first + 1) vs else (first, v) ∷ sparse (first + 1) vs

abbrev pub combination_words : Word → Terms → List Word
combination_words kind ts = kind ∷ colon ∷ flat_map term_words ts

abbrev pub bounded_words : Word → Word → Terms → List Word
bounded_words kind bound ts = kind ∷ bound ∷ colon ∷ flat_map term_words ts

abbrev pub line_words : Word → Line → List Word
line_words kind line = bounded_words kind (signed_decimal line.rhs) line.terms

-- rows with their numbers, of which the first is this one
abbrev pub rows_words : ℕ → List Terms → List (List Word)
rows_words k [] = []
rows_words k (row ∷ rows) = bounded_words (codes "row") (decimal (k + 1)) row ∷ rows_words (k + 1) rows

abbrev pub end_words : List Word
end_words = codes "end" ∷ []

abbrev pub lcp_words : Lcp → List (List Word)
lcp_words p =
    (codes "lpcc-lcp" ∷ codes "1" ∷ []) ∷ (codes "size" ∷ decimal p.size ∷ []) ∷ combination_words (codes "q") (sparse 0 p.q)
    ∷ rows_words 0 p.rows ++ end_words ∷ []

abbrev pub bilevel_words : Bilevel → List (List Word)
bilevel_words p =
    (codes "lpcc-bilevel" ∷ codes "1" ∷ []) ∷ (codes "sizes" ∷ decimal p.nx ∷ decimal p.ny ∷ []) ∷ combination_words (codes "cost") (sparse 0 p.cost)
    ∷ combination_words (codes "follow") (sparse p.nx p.follow) ∷ map (line_words (codes "up")) p.up ++ map (line_words (codes "low")) p.low ++ end_words ∷ []

-- one space between words, and LF behind each line
abbrev pub spelling : List (List Word) → List ℕ
spelling lines = text_of (map line_bytes lines)
