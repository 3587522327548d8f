-- The lines of a text.
use Rattle.std.specs.Prelude.{ℕ, Bool, nat_lt, List, [], ◌∷◌, length}
use Rattle.cert_text.specs.Splits.{split}
use Rattle.cert_text.specs.Lines.{tail_among}

-- the parts between LFs but the last, which stands behind the last LF
abbrev pub whole_among : List (List ℕ) → List (List ℕ)
whole_among [] = []
whole_among (tail ∷ []) = []
whole_among (line ∷ next ∷ rest) = line ∷ whole_among (next ∷ rest)

-- the lines that an LF ends, without it
abbrev pub lines_in : List ℕ → List (List ℕ)
lines_in text = whole_among (split 10 text)

-- bytes stand behind the last LF
abbrev pub is_cut : List ℕ → Bool
is_cut text = nat_lt 0 (length (tail_among (split 10 text)))
