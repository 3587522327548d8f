-- Under `yes`: how a text falls into lines, and a line into fields.
use Rattle.std.specs.Prelude.{ℕ, ◌+◌, Bool, false, ◌==◌, if◌then◌else◌, List, [], ◌∷◌, length}
use Rattle.mps_lex.specs.declared.line.LineKind.{LineKind}
use Rattle.mps_lex.specs.Kinds.{Name, fields, kind_of}

-- a byte at the front of the first piece
abbrev pub onto_first : ℕ → List (List ℕ) → List (List ℕ)
onto_first b [] = (b ∷ []) ∷ []
onto_first b (p ∷ ps) = (b ∷ p) ∷ ps

-- the text cut behind each LF; bytes behind the last LF are a piece too
abbrev pub pieces : List ℕ → List (List ℕ)
pieces [] = []
pieces (b ∷ bs) = if b == 10 then (b ∷ []) ∷ pieces bs else onto_first b (pieces bs)

-- whether the last byte is c
abbrev pub ends_with : ℕ → List ℕ → Bool
ends_with c [] = false
ends_with c (b ∷ []) = b == c
ends_with c (b ∷ d ∷ bs) = ends_with c (d ∷ bs)

-- without its last byte, where that is c
abbrev pub without_end : ℕ → List ℕ → List ℕ
without_end c [] = []
without_end c (b ∷ []) = if b == c then [] else b ∷ []
without_end c (b ∷ d ∷ bs) = b ∷ without_end c (d ∷ bs)

-- a piece without its LF, and without a CR then at its end
abbrev pub content : List ℕ → List ℕ
content piece = without_end 13 (without_end 10 piece)

-- a line: its number from 1, what it is, its fields, and how many bytes it has with its end
pub record Line : Type 0 where
  pub number : ℕ
  pub kind : LineKind
  pub fields : List Name
  pub size : ℕ

abbrev pub fields_of : Line → List Name
fields_of l = l.fields

abbrev pub line_of : ℕ → List ℕ → Line
line_of number piece = record {
  number = number;
  kind = kind_of (content piece);
  fields = fields (content piece);
  size = length piece;
}

-- the lines of pieces, of which the first has this number
abbrev pub lines_from : ℕ → List (List ℕ) → List Line
lines_from number [] = []
lines_from number (p ∷ ps) = line_of number p ∷ lines_from (number + 1) ps

abbrev pub lines_of : List ℕ → List Line
lines_of text = lines_from 1 (pieces text)
