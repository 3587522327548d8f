-- What the code's lines and slices show.
use Rattle.std.specs.Prelude.{ℕ, List, map}
use Rattle.std.specs.Borrow.{Bor}
use Rattle.mps_lex.specs.declared.line.SplitLine.{SplitLine}
use Rattle.mps_lex.specs.Lines.{Line}

-- the bytes that a slice shows
abbrev pub shown : Bor (List ℕ) → List ℕ
shown s = s.now

abbrev pub seen_line : SplitLine → Line
seen_line l = record { number = l.number; kind = l.kind; fields = map shown l.fields.items; size = l.size }
