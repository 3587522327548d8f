-- What the code's tables show.
use Rattle.std.specs.Prelude.{ℕ, List}
use Rattle.std.specs.Borrow.{Bor}
use Rattle.mps_lex.specs.Kinds.{Name}
use Rattle.mps_tables.specs.declared.rows.RowState.{RowState}
use Rattle.decks.specs.Spelling.{RowLine}

-- a name that a slice shows, with what is known of it
abbrev pub shown_entry : {T : Type 0} → Bor (List ℕ) × T → Name × T
shown_entry e = (e.0.now, e.1)

-- a row of this name and state
abbrev pub seen_row : Name × RowState → RowLine
seen_row e = record { letter = e.1.letter; line = e.1.line; name = e.0; number = e.1.number }

abbrev pub shown_row : Bor (List ℕ) × RowState → RowLine
shown_row e = seen_row (shown_entry e)

abbrev pub state_of : RowLine → RowState
state_of r = record { letter = r.letter; line = r.line; number = r.number }
