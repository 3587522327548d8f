-- Texts as they are written, word behind word.
use Rattle.std.specs.Prelude.{ℕ, List, [], ◌∷◌, ◌++◌, map, flat_map}
use Rattle.cert_text.specs.Spelling.{Word, line_bytes, text_of}

-- words behind a first one
unfoldable pub spaced : List Word → List ℕ
spaced words = flat_map (λ word. 32 ∷ word) words

unfoldable pub text_line : List Word → List ℕ
text_line words = line_bytes words ++ 10 ∷ []

unfoldable pub text_lines : List (List Word) → List ℕ
text_lines lines = text_of (map line_bytes lines)
