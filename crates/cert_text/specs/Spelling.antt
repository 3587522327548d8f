-- The one spelling of each certificate: a text without comments, as lines of words.
use Rattle.std.specs.Prelude.{◌+◌, ℕ, ℤ, List, [], ◌∷◌, ◌++◌, map, flat_map, length, codes}
use Rattle.std.specs.Fmt.{decimal, signed_decimal}
use Rattle.std.specs.List.{join_with_byte}
use Rattle.nogoods.specs.declared.choice.Choice.{Choice}
use Rattle.nogoods.specs.declared.choice.Side.{Side}
use Rattle.nogoods.specs.declared.choice.Side.TheVariants.{A, B}
use Rattle.cert_text.specs.declared.cert.Cert.{Cert}
use Rattle.cert_text.specs.declared.cert.Cert.TheVariants.{Optimal, Infeasible, Unbounded}
use Rattle.cert_text.specs.declared.cert.CertPoint.{CertPoint}
use Rattle.cert_text.specs.declared.cert.CertLine.{CertLine}
use Rattle.cert_text.specs.declared.cert.CertLine.TheVariants.{Ray, Point, Derived}

abbrev pub Word : Type 0
Word = List ℕ

-- ---- words: pairs, columns, constraints and lines, which are counted from 0, are counted from 1 in texts

abbrev pub side_letter : Side → Word
side_letter A = codes "a"
side_letter B = codes "b"

abbrev pub choice_word : Choice → Word
choice_word c = decimal (c.pair + 1) ++ side_letter c.side

-- the number of a column or a constraint, and the number that it is given
abbrev pub term_words : ℕ × ℤ → List Word
term_words t = decimal (t.0 + 1) ∷ signed_decimal t.1 ∷ []

abbrev pub hint_word : ℕ → Word
hint_word h = decimal (h + 1)

abbrev pub colon : Word
colon = codes ":"

-- ---- lines

abbrev pub head_words : List Word
head_words = codes "lpcc-certificate" ∷ codes "1" ∷ []

abbrev pub point_words : CertPoint → List Word
point_words p = codes "point" ∷ signed_decimal p.d ∷ colon ∷ flat_map term_words p.terms

abbrev pub value_words : ℤ → List Word
value_words z = codes "value" ∷ signed_decimal z ∷ []

abbrev pub piece_words : List Choice → List Word
piece_words piece = codes "piece" ∷ map choice_word piece

abbrev pub ray_words : List (ℕ × ℤ) → List Word
ray_words ray = codes "ray" ∷ colon ∷ flat_map term_words ray

abbrev pub line_words : CertLine → List Word
line_words (Ray ng mult) = codes "i" ∷ map choice_word ng ++ colon ∷ flat_map term_words mult
line_words (Point ng e mult) = codes "p" ∷ map choice_word ng ++ colon ∷ signed_decimal e ∷ colon ∷ flat_map term_words mult
line_words (Derived ng hints) = codes "d" ∷ map choice_word ng ++ colon ∷ map hint_word hints

-- the last line, with the number of no-good lines
abbrev pub end_words : List CertLine → List Word
end_words lines = codes "end" ∷ decimal (length lines) ∷ []

-- the no-good lines, and the last line
abbrev pub log_words : List CertLine → List (List Word)
log_words lines = map line_words lines ++ end_words lines ∷ []

abbrev pub cert_words : Cert → List (List Word)
cert_words (Optimal point z lines) = head_words ∷ (codes "optimal" ∷ []) ∷ point_words point ∷ value_words z ∷ log_words lines
cert_words (Infeasible lines) = head_words ∷ (codes "infeasible" ∷ []) ∷ log_words lines
cert_words (Unbounded piece point ray) = head_words ∷ (codes "unbounded" ∷ []) ∷ piece_words piece ∷ point_words point ∷ ray_words ray ∷ log_words []

-- ---- texts

-- one space between words
abbrev pub line_bytes : List Word → List ℕ
line_bytes words = join_with_byte 32 words

abbrev pub cert_lines : Cert → List (List ℕ)
cert_lines cert = map line_bytes (cert_words cert)

-- LF behind each line
abbrev pub text_of : List (List ℕ) → List ℕ
text_of lines = flat_map (λ line. line ++ 10 ∷ []) lines

abbrev pub spelling : Cert → List ℕ
spelling cert = text_of (cert_lines cert)
