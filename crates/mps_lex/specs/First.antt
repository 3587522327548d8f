-- The first fields of a line, which the code holds.
use Rattle.std.specs.Prelude.{◌≡◌, ℕ, List, take}
use Rattle.mps_lex.specs.declared.line.SplitLine.{SplitLine}
use Rattle.mps_lex.specs.declared.split.TheConstants.{FIRST_FIELDS}
use Rattle.mps_lex.specs.Kinds.{Name, fields}
use Rattle.mps_lex.specs.Lines.{Line}
use Rattle.mps_lex.specs.Shown.{seen_line}

-- the first of these fields, as many as are held
abbrev pub first_of : List Name → List Name
first_of fs = take FIRST_FIELDS fs

-- a line with its first fields alone
abbrev pub shortened : Line → Line
shortened l = record l { fields = first_of l.fields }

-- what is held of a line with these bytes, and the line
abbrev pub HoldsFirst : SplitLine → List ℕ → Type 0
HoldsFirst l text = (seen_line l).fields ≡ first_of (fields text)

abbrev pub whole : SplitLine → List ℕ → Line
whole l text = record (seen_line l) { fields = fields text }
