-- What the tables of a reader know of the lines of each section so far, and how a line adds to it.
use Rattle.std.specs.Prelude.{ℕ, ◌+◌, if◌then◌else◌, List, [], ◌∷◌, ◌++◌, length, map, fold, Option, Some, None, unwrap_or}
use Rattle.mps_lex.specs.Kinds.{Name}
use Rattle.mps_lex.specs.Lines.{Line}
use Rattle.decks.specs.declared.deck.Column.{Column}
use Rattle.decks.specs.declared.deck.Entry.{Entry}
use Rattle.decks.specs.Names.{has, add_name, named, put}
use Rattle.decks.specs.Spelling.{field, RowLine, NamedEntry, entries_on, entries_in, column_names, rows_in, entry_of, deck_entries, RowValue, row_values_set, row_values_on, row_values_in, first_set}
use Rattle.decks.specs.Bounds.{Setting, setting_on, settings_in, bound_set, default_column, set_by, column_bounds, bounded}

-- ---- COLUMNS

-- the columns, the rows in which the last one has entries, how many entries there are, and those of the deck
pub record KnownColumns : Type 0 where
  pub names : List Name
  pub here : List Name
  pub count : ℕ
  pub entries : List Entry

abbrev pub last_name : List Name → Name
last_name [] = []
last_name (n ∷ []) = n
last_name (n ∷ m ∷ ns) = last_name (m ∷ ns)

abbrev pub known_columns : List RowLine → List Line → KnownColumns
known_columns rows ls = record {
  names = column_names ls;
  here = rows_in (last_name (column_names ls)) (entries_in ls);
  count = length (entries_in ls);
  entries = deck_entries rows (column_names ls) (entries_in ls);
}

-- the rows in which a column has entries that is the last one, or new
abbrev pub rows_here : KnownColumns → Name → List Name
rows_here k c = if has k.names c then k.here else []

abbrev pub with_name : KnownColumns → Name → KnownColumns
with_name k c = record k { names = add_name k.names c; here = rows_here k c }

abbrev pub with_entry : List RowLine → KnownColumns → NamedEntry → KnownColumns
with_entry rows k e = record k { here = k.here ++ e.row ∷ []; count = k.count + 1; entries = k.entries ++ entry_of rows k.names e }

abbrev pub with_entries : List RowLine → KnownColumns → List NamedEntry → KnownColumns
with_entries rows k [] = k
with_entries rows k (e ∷ es) = with_entries rows (with_entry rows k e) es

abbrev pub with_column : List RowLine → KnownColumns → List Name → KnownColumns
with_column rows k fs = with_entries rows (with_name k (field 0 fs)) (entries_on fs)

-- ---- RHS and RANGES

-- the set, and the rows with their values
pub record KnownRowValues : Type 0 where
  pub set : Option Name
  pub values : List RowValue

abbrev pub known_row_values : List Line → KnownRowValues
known_row_values ls = record { set = first_set row_values_set ls; values = row_values_in ls }

-- the first of the sets, if there is one
abbrev pub set_or : Option Name → Name → Option Name
set_or None t = Some t
set_or (Some s) t = Some s

abbrev pub with_set : KnownRowValues → Name → KnownRowValues
with_set k t = record k { set = set_or k.set t }

abbrev pub with_row_values : KnownRowValues → List Name → KnownRowValues
with_row_values k fs = record { set = set_or k.set (row_values_set fs); values = k.values ++ row_values_on fs }

-- ---- BOUNDS

-- the set, and the columns that lines name with their bounds
pub record KnownBounds : Type 0 where
  pub set : Option Name
  pub columns : List (Name × Column)

abbrev pub bounds_of : List Setting → Name → Name × Column
bounds_of settings n = (n, column_bounds settings n)

abbrev pub known_bounds : List Line → KnownBounds
known_bounds ls = record { set = first_set bound_set ls; columns = map (bounds_of (settings_in ls)) (bounded (settings_in ls)) }

-- the bounds of a column, those of one that no line names where it is not there
abbrev pub bounds_with : List (Name × Column) → Name → Column
bounds_with columns n = unwrap_or (named columns n) default_column

abbrev pub with_setting : List (Name × Column) → Setting → List (Name × Column)
with_setting columns s = put columns s.column (set_by (bounds_with columns s.column) s)

abbrev pub with_settings : List (Name × Column) → List Setting → List (Name × Column)
with_settings columns ss = fold with_setting columns ss

abbrev pub with_bound : KnownBounds → ℕ → List Name → KnownBounds
with_bound k number fs = record { set = set_or k.set (bound_set fs); columns = with_settings k.columns (setting_on number fs) }
