-- The first line behind a place that says something.
use Rattle.std.specs.Prelude.{ℕ, ◌-◌, not, ◌&&◌, ◌==◌, if◌then◌else◌, List, [], ◌∷◌, Option, Some, None}
use Rattle.mps_lex.specs.Kinds.{is_passed}
use Rattle.mps_lex.specs.Lines.{Line, lines_of}

-- the number of the first line that is not passed over among those that begin this many bytes behind the first one, or later
abbrev pub first_from : ℕ → List Line → Option ℕ
first_from bytes [] = None
first_from bytes (l ∷ ls) = if bytes == 0 && not (is_passed l.kind) then Some l.number else first_from (bytes - l.size) ls

-- the number of the first line that begins at a place of the text or behind it and is neither blank nor a comment
abbrev pub first_after : List ℕ → ℕ → Option ℕ
first_after text place = first_from place (lines_of text)
