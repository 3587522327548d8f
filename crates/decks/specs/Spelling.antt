-- Under `yes`: the deck that lines spell: each part of it is made from the lines of its slice, in their order.
use Rattle.std.specs.Prelude.{ℕ, ◌+◌, Bool, true, false, not, ◌&&◌, if◌then◌else◌, List, [], ◌∷◌, ◌++◌, length, map, filter, fold, drop, slice_index_or, Option, Some, None, is_some, unwrap_or, count_by, codes}
use Rattle.std.specs.List.{flat_map, list_any, find, position_or_len}
use Rattle.std.specs.Str.{bytes_eq}
use Rattle.lp_nums.specs.Fractions.{Fraction}
use Rattle.sense.specs.declared.objective.Sense.TheVariants.{Min}
use Rattle.mps_lex.specs.Kinds.{Name}
use Rattle.mps_lex.specs.Lines.{Line}
use Rattle.mps_lex.specs.declared.line.Section.TheVariants.{Rows, Columns, Rhs, Ranges, Bounds, Pairs, Groups}
use Rattle.decks.specs.declared.deck.Deck.{Deck}
use Rattle.decks.specs.declared.deck.Row as rows
use Rattle.decks.specs.declared.deck.Entry.{Entry}
use Rattle.decks.specs.declared.deck.GroupLine.{GroupLine}
use Rattle.decks.specs.declared.deck.PairLine.{PairLine}
use Rattle.decks.specs.declared.deck.Letter.{Letter}
use Rattle.decks.specs.declared.deck.Letter.TheVariants.{N, E, L, G}
use Rattle.decks.specs.declared.deck.Quantity.{Quantity}
use Rattle.decks.specs.declared.deck.Quantity.TheVariants.{Col, Upc, Row}
use Rattle.decks.specs.Decks.{zero}
use Rattle.decks.specs.Names.{place, each_once, named}
use Rattle.decks.specs.Numbers.{value_of}
use Rattle.decks.specs.Sections.{slice}
use Rattle.decks.specs.Senses.{sense_named}
use Rattle.decks.specs.Bounds.{settings_in, column_bounds}

abbrev pub field : ℕ → List Name → Name
field i fs = slice_index_or fs i []

-- ---- ROWS: a letter and a name

abbrev pub letter_of : Name → Letter
letter_of w =
    if bytes_eq w (codes "N") then N else
    if bytes_eq w (codes "E") then E else
    if bytes_eq w (codes "L") then L else G

abbrev pub is_n : Letter → Bool
is_n N = true
is_n letter = false

-- what a line of ROWS says: a row with its place in the deck, if it has one
pub record RowLine : Type 0 where
  pub letter : Letter
  pub line : ℕ
  pub name : Name
  pub number : Option ℕ

abbrev pub has_objective : List RowLine → Bool
has_objective rs = list_any (λ r. is_n r.letter) rs

-- the rows that the deck has
abbrev pub kept : List RowLine → List RowLine
kept rs = filter (λ r. is_some r.number) rs

-- the first N row is the objective, and N rows behind it are dropped; the others are numbered in their order
abbrev pub number_behind : List RowLine → Letter → Option ℕ
number_behind rs l = if is_n l && has_objective rs then None else Some (length (kept rs))

abbrev pub row_line : List RowLine → ℕ → List Name → RowLine
row_line rs line fs =
    let letter = letter_of (field 0 fs) in
    record { letter = letter; line = line; name = field 1 fs; number = number_behind rs letter }

abbrev pub add_row : List RowLine → Line → List RowLine
add_row rs l = rs ++ row_line rs l.number l.fields ∷ []

-- the rows that lines name, each behind those before it
abbrev pub rows_of : List Line → List RowLine
rows_of ls = fold add_row [] ls

-- the rows other than N rows
abbrev pub other_rows : List RowLine → ℕ
other_rows rs = count_by (λ r. not (is_n r.letter)) rs

-- the row of this name, if there is one
abbrev pub row_named : List RowLine → Name → Option RowLine
row_named rs n = find (λ r. bytes_eq n r.name) rs

abbrev pub number_of_row : Option RowLine → Option ℕ
number_of_row None = None
number_of_row (Some r) = r.number

-- ---- COLUMNS: a column, and once or twice a row and a value

-- a row and a value
abbrev pub RowValue : Type 0
RowValue = Name × Fraction

abbrev pub row_value : Name → Name → RowValue
row_value r v = (r, value_of v)

abbrev pub values_on : List Name → List RowValue
values_on (c ∷ r ∷ v ∷ []) = row_value r v ∷ []
values_on (c ∷ r ∷ v ∷ s ∷ w ∷ []) = row_value r v ∷ row_value s w ∷ []
values_on fs = []

-- an entry as lines name it: a column, with a row and a value
pub record NamedEntry : Type 0 where
  pub column : Name
  pub row : Name
  pub value : Fraction

abbrev pub in_column : Name → RowValue → NamedEntry
in_column c g = record { column = c; row = g.0; value = g.1 }

abbrev pub entries_on : List Name → List NamedEntry
entries_on fs = map (in_column (field 0 fs)) (values_on fs)

abbrev pub entries_in : List Line → List NamedEntry
entries_in ls = flat_map (λ l. entries_on l.fields) ls

abbrev pub column_names : List Line → List Name
column_names ls = each_once (map (λ l. field 0 l.fields) ls)

-- the rows in which a column has entries
abbrev pub rows_in : Name → List NamedEntry → List Name
rows_in c es = map (λ e. e.row) (filter (λ e. bytes_eq c e.column) es)

-- an entry in a dropped row leaves nothing
abbrev pub entry_at : ℕ → Fraction → Option ℕ → List Entry
entry_at column value None = []
entry_at column value (Some row) = record { column = column; row = row; value = value } ∷ []

abbrev pub entry_of : List RowLine → List Name → NamedEntry → List Entry
entry_of rows columns e = entry_at (place columns e.column) e.value (number_of_row (row_named rows e.row))

abbrev pub deck_entries : List RowLine → List Name → List NamedEntry → List Entry
deck_entries rows columns es = flat_map (entry_of rows columns) es

-- ---- RHS and RANGES: the name of a set or none, and once or twice a row and a value

-- the set that a line names; a missing name is the empty one, which no field is
abbrev pub row_values_set : List Name → Name
row_values_set (t ∷ r ∷ v ∷ []) = t
row_values_set (t ∷ r ∷ v ∷ s ∷ w ∷ []) = t
row_values_set fs = []

abbrev pub row_values_on : List Name → List RowValue
row_values_on (r ∷ v ∷ []) = row_value r v ∷ []
row_values_on (t ∷ r ∷ v ∷ []) = row_value r v ∷ []
row_values_on (r ∷ v ∷ s ∷ w ∷ []) = row_value r v ∷ row_value s w ∷ []
row_values_on (t ∷ r ∷ v ∷ s ∷ w ∷ []) = row_value r v ∷ row_value s w ∷ []
row_values_on fs = []

abbrev pub row_values_in : List Line → List RowValue
row_values_in ls = flat_map (λ l. row_values_on l.fields) ls

-- the set of the first of these lines
abbrev pub first_set : (List Name → Name) → List Line → Option Name
first_set set_on [] = None
first_set set_on (l ∷ ls) = Some (set_on l.fields)

-- a right-hand side that is not given is 0, and the objective has no range
abbrev pub deck_row : List RowValue → List RowValue → RowLine → rows.Row
deck_row rights ranges r = record {
  letter = r.letter;
  line = r.line;
  rhs = unwrap_or (named rights r.name) zero;
  range = if is_n r.letter then None else named ranges r.name;
}

-- ---- PAIRS: a name, and twice a kind with a column or a row

abbrev pub pair_names : List Line → List Name
pair_names ls = map (λ l. field 0 l.fields) ls

abbrev pub is_col : Name → Bool
is_col w = bytes_eq w (codes "COL")

abbrev pub is_upc : Name → Bool
is_upc w = bytes_eq w (codes "UPC")

abbrev pub quantity_of : List RowLine → List Name → Name → Name → Quantity
quantity_of rows columns kind n =
    if is_col kind then Col (place columns n) else
    if is_upc kind then Upc (place columns n) else Row (unwrap_or (number_of_row (row_named rows n)) 0)

abbrev pub pair_of : List RowLine → List Name → List Name → PairLine
pair_of rows columns fs = record {
  a = quantity_of rows columns (field 1 fs) (field 2 fs);
  b = quantity_of rows columns (field 3 fs) (field 4 fs);
}

abbrev pub deck_pairs : List RowLine → List Name → List Line → List PairLine
deck_pairs rows columns ls = map (λ l. pair_of rows columns l.fields) ls

-- ---- GROUPS: a name, and one or more times a kind with a column or a row

-- a kind with the name of a column or a row
abbrev pub ItemWords : Type 0
ItemWords = Name × Name

-- words two by two
abbrev pub items_in : List Name → List ItemWords
items_in (k ∷ n ∷ ws) = (k, n) ∷ items_in ws
items_in ws = []

-- behind the name of the group
abbrev pub items_on : List Name → List ItemWords
items_on fs = items_in (drop 1 fs)

abbrev pub group_names : List Line → List Name
group_names ls = each_once (map (λ l. field 0 l.fields) ls)

-- the items of the group of this name, on all its lines
abbrev pub items_of : Name → List Line → List ItemWords
items_of g ls = flat_map (λ l. items_on l.fields) (filter (λ l. bytes_eq g (field 0 l.fields)) ls)

abbrev pub item_of : List RowLine → List Name → ItemWords → Quantity
item_of rows columns w = quantity_of rows columns w.0 w.1

abbrev pub group_of : List RowLine → List Name → List Line → Name → GroupLine
group_of rows columns ls g = record { items = map (item_of rows columns) (items_of g ls) }

abbrev pub deck_groups : List RowLine → List Name → List Line → List GroupLine
deck_groups rows columns ls = map (group_of rows columns ls) (group_names ls)

-- ---- the deck

-- the deck of lines, with the number of the line behind them, which is ENDATA. Where no line names a sense, the objective is to
-- be least
abbrev pub deck_of : List Line → ℕ → Deck
deck_of ls end_line =
    let rows = rows_of (slice Rows ls) in
    let columns = column_names (slice Columns ls) in
    record {
      sense = unwrap_or (sense_named ls) Min;
      rows = map (deck_row (row_values_in (slice Rhs ls)) (row_values_in (slice Ranges ls))) (kept rows);
      objective = position_or_len (λ r. is_n r.letter) (kept rows);
      columns = map (column_bounds (settings_in (slice Bounds ls))) columns;
      entries = deck_entries rows columns (entries_in (slice Columns ls));
      pairs = deck_pairs rows columns (slice Pairs ls);
      groups = deck_groups rows columns (slice Groups ls);
      end_line = end_line;
    }

-- how many bytes lines have
abbrev pub size_of : List Line → ℕ
size_of [] = 0
size_of (l ∷ ls) = l.size + size_of ls
