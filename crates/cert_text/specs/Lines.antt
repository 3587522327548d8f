-- The content lines of a text: those that do not begin with `*`.
use Rattle.std.specs.Prelude.{ℕ, Bool, false, not, ◌&&◌, ◌==◌, nat_lt, if◌then◌else◌, List, [], ◌∷◌, length}
use Rattle.cert_text.specs.Splits.{split}

abbrev pub is_comment : List ℕ → Bool
is_comment [] = false
is_comment (b ∷ line) = b == 42

-- among the parts between LFs, of which the last stands behind the last LF: the lines, without comments
abbrev pub lines_among : List (List ℕ) → List (List ℕ)
lines_among [] = []
lines_among (tail ∷ []) = []
lines_among (line ∷ next ∷ rest) = if is_comment line then lines_among (next ∷ rest) else line ∷ lines_among (next ∷ rest)

abbrev pub tail_among : List (List ℕ) → List ℕ
tail_among [] = []
tail_among (tail ∷ []) = tail
tail_among (line ∷ next ∷ rest) = tail_among (next ∷ rest)

-- bytes that are no comment
abbrev pub is_content : List ℕ → Bool
is_content bytes = nat_lt 0 (length bytes) && not (is_comment bytes)

-- the content lines that an LF ends, without it
abbrev pub content : List ℕ → List (List ℕ)
content text = lines_among (split 10 text)

-- behind the last LF stands something that is no comment
abbrev pub is_cut : List ℕ → Bool
is_cut text = is_content (tail_among (split 10 text))
