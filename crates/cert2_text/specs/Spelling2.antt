-- The one spelling of each certificate of form 2: that of form 1 with another head, lists that are named, and two more
-- kinds of lines.
use Rattle.std.specs.Prelude.{◌+◌, ℕ, List, [], ◌∷◌, ◌++◌, map, flat_map, Option, Some, None, codes}
use Rattle.std.specs.Fmt.{decimal, signed_decimal}
use Rattle.cert_text.specs.Spelling.{Word, choice_word, term_words, hint_word, colon, point_words, value_words, piece_words, ray_words, line_bytes, text_of}
use Rattle.cert2_text.specs.declared.cert2.Cert2.{Cert2}
use Rattle.cert2_text.specs.declared.cert2.Cert2.TheVariants.{Optimal, Infeasible, Unbounded}
use Rattle.cert2_text.specs.declared.cert2.Cert2Line.{Cert2Line}
use Rattle.cert2_text.specs.declared.cert2.Cert2Line.TheVariants.{Shared, Ray, Point, Derived, Forget}
use Rattle.cert2_text.specs.Certs2.{count_of}

abbrev pub head2_words : List Word
head2_words = codes "lpcc-certificate" ∷ codes "2" ∷ []

-- the list whose multipliers are a part of those of the line
abbrev pub list_words : Option ℕ → List Word
list_words None = []
list_words (Some h) = (64 ∷ decimal (h + 1)) ∷ []

abbrev pub line2_words : Cert2Line → List Word
line2_words (Shared mult) = codes "m" ∷ colon ∷ flat_map term_words mult
line2_words (Ray ng list mult) = codes "i" ∷ map choice_word ng ++ colon ∷ (list_words list ++ flat_map term_words mult)
line2_words (Point ng e list mult) = codes "p" ∷ map choice_word ng ++ colon ∷ signed_decimal e ∷ colon ∷ (list_words list ++ flat_map term_words mult)
line2_words (Derived ng hints) = codes "d" ∷ map choice_word ng ++ colon ∷ map hint_word hints
line2_words (Forget lines) = codes "x" ∷ map hint_word lines

-- the last line, with the number of no-good lines
abbrev pub end2_words : List Cert2Line → List Word
end2_words lines = codes "end" ∷ decimal (count_of lines) ∷ []

abbrev pub log2_words : List Cert2Line → List (List Word)
log2_words lines = map line2_words lines ++ end2_words lines ∷ []

abbrev pub cert2_words : Cert2 → List (List Word)
cert2_words (Optimal point z lines) = head2_words ∷ (codes "optimal" ∷ []) ∷ point_words point ∷ value_words z ∷ log2_words lines
cert2_words (Infeasible lines) = head2_words ∷ (codes "infeasible" ∷ []) ∷ log2_words lines
cert2_words (Unbounded piece point ray) = head2_words ∷ (codes "unbounded" ∷ []) ∷ piece_words piece ∷ point_words point ∷ ray_words ray ∷ log2_words []

abbrev pub cert2_lines : Cert2 → List (List ℕ)
cert2_lines cert = map line_bytes (cert2_words cert)

abbrev pub spelling2 : Cert2 → List ℕ
spelling2 cert = text_of (cert2_lines cert)
