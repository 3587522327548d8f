-- The places of fields in a text.
use Rattle.std.specs.Prelude.{ℕ, ◌+◌, ◌<◌, ◌≤◌, if◌then◌else◌, List, [], ◌∷◌, length, map, slice_range}
use Rattle.mps_lex.specs.Kinds.{Name, is_blank, ends_here, kind_of}
use Rattle.mps_lex.specs.Lines.{pieces, content}
use Rattle.mps_lex.specs.declared.line.Line.{Line}

-- the place of a first byte, and of the byte behind the last one
abbrev pub Place : Type 0
Place = ℕ × ℕ

-- the first field begins here
abbrev pub begin_at : ℕ → List Place → List Place
begin_at at [] = (at, at + 1) ∷ []
begin_at at (p ∷ ps) = (at, p.1) ∷ ps

-- the places of the fields of bytes, of which the first stands here
abbrev pub places_from : ℕ → List ℕ → List Place
places_from at [] = []
places_from at (b ∷ bs) =
    if is_blank b then places_from (at + 1) bs else
    if ends_here bs then (at, at + 1) ∷ places_from (at + 1) bs else begin_at at (places_from (at + 1) bs)

abbrev pub placed_line : ℕ → ℕ → List ℕ → Line
placed_line number at piece = record { number = number; kind = kind_of (content piece); fields = places_from at (content piece) }

-- the lines of pieces, of which the first has this number and begins here
abbrev pub placed_from : ℕ → ℕ → List (List ℕ) → List Line
placed_from number at [] = []
placed_from number at (p ∷ ps) = placed_line number at p ∷ placed_from (number + 1) (at + length p) ps

abbrev pub placed_lines : List ℕ → List Line
placed_lines text = placed_from 1 0 (pieces text)

-- the bytes that stand at a place
abbrev pub word_at : List ℕ → Place → Name
word_at text p = slice_range text p.0 p.1

abbrev pub words_at : List ℕ → Line → List Name
words_at text l = map (word_at text) l.fields

-- a place has bytes of the text
abbrev pub HasBytesOf : List ℕ → Place → Type 0
HasBytesOf text p = (p.0 < p.1) × (p.1 ≤ length text)
