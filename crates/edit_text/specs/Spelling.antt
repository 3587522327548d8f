-- The one spelling of each script, as lines of words.
use Rattle.std.specs.Prelude.{ℕ, ℤ, List, [], ◌∷◌, ◌++◌, map, flat_map, codes}
use Rattle.std.specs.Fmt.{signed_decimal}
use Rattle.cert_text.specs.Spelling.{Word, colon, line_bytes, text_of}
use Rattle.edit_text.specs.declared.script.Command.{Command}
use Rattle.edit_text.specs.declared.script.Command.TheVariants.{Add, Tighten, Cost, Solve}
use Rattle.edit_text.specs.declared.script.Relation.{Relation}
use Rattle.edit_text.specs.declared.script.Relation.TheVariants.{Ge, Le, Eq}

abbrev pub relation_word : Relation → Word
relation_word Ge = codes "G"
relation_word Le = codes "L"
relation_word Eq = codes "E"

abbrev pub term_words : ℤ × ℤ → List Word
term_words t = signed_decimal t.0 ∷ signed_decimal t.1 ∷ []

abbrev pub command_words : Command → List Word
command_words (Add relation rhs terms) = codes "add" ∷ relation_word relation ∷ signed_decimal rhs ∷ colon ∷ flat_map term_words terms
command_words (Tighten con rhs) = codes "tighten" ∷ signed_decimal con ∷ signed_decimal rhs ∷ []
command_words (Cost terms) = codes "cost" ∷ colon ∷ flat_map term_words terms
command_words Solve = codes "solve" ∷ []

abbrev pub end_words : List Word
end_words = codes "end" ∷ []

-- a line for each command, and the last line
abbrev pub script_words : List Command → List (List Word)
script_words commands = map command_words commands ++ end_words ∷ []

-- one space between words, and LF behind each line
abbrev pub spelling : List Command → List ℕ
spelling commands = text_of (map line_bytes (script_words commands))
