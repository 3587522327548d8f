-- Under `yes`: the fault of a line: that line and the lines before it decide.
use Rattle.std.specs.Prelude.{ℕ, ◌+◌, ◌%◌, ◌==◌, Bool, not, ◌&&◌, ◌||◌, nat_le, nat_lt, is_some, is_none, codes, if◌then◌else◌, List, [], ◌∷◌, ◌++◌, length, Option, Some, None, option_map}
use Rattle.std.specs.List.{list_any}
use Rattle.std.specs.Str.{bytes_eq}
use Rattle.sense.specs.declared.objective.Sense.{Sense}
use Rattle.lp_base.specs.declared.limits.TheConstants.{MOST_COLUMNS, MOST_ENTRIES, MOST_PAIRS, MOST_ROWS}
use Rattle.mps_lex.specs.Kinds.{Name}
use Rattle.mps_lex.specs.Lines.{Line}
use Rattle.mps_lex.specs.declared.line.Section.{Section}
use Rattle.mps_lex.specs.declared.line.Section.TheVariants as section
use Rattle.mps_lex.specs.declared.line.LineKind.{LineKind}
use Rattle.mps_lex.specs.declared.line.LineKind.TheVariants.{Blank, Comment, Head, LeftOut, Unknown, Entry}
use Rattle.decks.specs.declared.bounds.BoundKind.{BoundKind}
use Rattle.decks.specs.declared.fault.DeckWhy.{DeckWhy}
use Rattle.decks.specs.declared.fault.DeckWhy.TheVariants.{UnknownSection, LeftOutSection, SectionOrder, FieldCount, RowLetter, SenseWord, BoundKind as BoundKindWhy, NameTwice, UnknownName, EntryTwice, ColumnSplit, GroupSplit, SecondSet, SecondSense, NoObjective, IntegerMarker, UpperBelowZero, PairKind, PairLower, PairUpper, TooMany}
use Rattle.decks.specs.declared.deck.Column.{Column}
use Rattle.decks.specs.Decks.{is_inequality, new_pairs, group_pairs}
use Rattle.decks.specs.Names.{has, place, named}
use Rattle.decks.specs.Numbers.{text_fault, is_zero}
use Rattle.decks.specs.Sections.{Open, is_open, open_behind, open_rank, is_begun, slice, may_follow}
use Rattle.decks.specs.Spelling.{RowLine, rows_of, field, row_named, has_objective, other_rows, is_n, letter_of, entries_in, rows_in, column_names, RowValue, row_value, row_values_set, row_values_in, first_set, pair_names, is_col, is_upc, ItemWords, items_in, items_of, group_names, deck_groups}
use Rattle.decks.specs.Senses.{sense_word, sense_named}
use Rattle.decks.specs.Bounds.{bound_kind, takes_value, BoundWords, bound_words, bound_set, settings_in, column_bounds, upper_below_zero}

-- the first of two faults
infixr 5 ◌or◌
abbrev pub ◌or◌ : {X : Type 0} → Option X → Option X → Option X
(Some w) or other = Some w
None or other = other

abbrev pub fault_if : Bool → DeckWhy → Option DeckWhy
fault_if b w = if b then Some w else None

-- ---- OBJSENSE

abbrev pub sense_word_fault : Name → Option DeckWhy
sense_word_fault w = fault_if (is_none (sense_word w)) SenseWord

-- the words of a head: of OBJSENSE at most one word stands behind it, and it is one of a sense
abbrev pub head_words_fault : Section → List Name → Option DeckWhy
head_words_fault section.ObjSense (h ∷ w ∷ []) = sense_word_fault w
head_words_fault section.ObjSense (h ∷ w ∷ v ∷ ws) = Some FieldCount
head_words_fault t fs = None

-- a line of OBJSENSE, below the sense that is named before it
abbrev pub sense_fault : Option Sense → List Name → Option DeckWhy
sense_fault before (w ∷ []) = sense_word_fault w or fault_if (is_some before) SecondSense
sense_fault before fs = Some FieldCount

-- ---- ROWS

abbrev pub is_letter : Name → Bool
is_letter w = bytes_eq w (codes "N") || bytes_eq w (codes "E") || bytes_eq w (codes "L") || bytes_eq w (codes "G")

-- one row other than N rows too many
abbrev pub many_rows_fault : List RowLine → Name → Option DeckWhy
many_rows_fault rows l = fault_if (not (is_n (letter_of l)) && nat_le MOST_ROWS (other_rows rows)) TooMany

-- a line of ROWS, below these rows
abbrev pub row_fault : List RowLine → List Name → Option DeckWhy
row_fault rows (l ∷ n ∷ []) = fault_if (not (is_letter l)) RowLetter or fault_if (is_some (row_named rows n)) NameTwice or many_rows_fault rows l
row_fault rows fs = Some FieldCount

-- ---- COLUMNS

-- a marker of integer columns, whatever else the line has
abbrev pub marker_fault : List Name → Option DeckWhy
marker_fault (c ∷ r ∷ fs) = fault_if (bytes_eq r (codes "'MARKER'")) IntegerMarker
marker_fault fs = None

-- a name stands already, but not as the last one
abbrev pub is_split : List Name → Name → Bool
is_split names n = nat_lt (place names n + 1) (length names)

abbrev pub split_fault : List Name → Name → Option DeckWhy
split_fault columns c = fault_if (is_split columns c) ColumnSplit

-- a row with its value, where one is given for the row already, or not
abbrev pub entry_fault : List RowLine → Bool → Name → Name → Option DeckWhy
entry_fault rows twice r v = fault_if (is_none (row_named rows r)) UnknownName or fault_if twice EntryTwice or text_fault v

-- one column too many, or one of so many further entries
abbrev pub full_fault : List Name → ℕ → Name → ℕ → Option DeckWhy
full_fault columns entries c more = fault_if ((not (has columns c) && nat_le MOST_COLUMNS (length columns)) || nat_lt MOST_ENTRIES (entries + more)) TooMany

abbrev pub two_entries_fault : List RowLine → List Name → Name → Name → Name → Name → Option DeckWhy
two_entries_fault rows here r v s w = entry_fault rows (has here r) r v or entry_fault rows (has (here ++ r ∷ []) s) s w

-- the count of fields, the column and its entries, below these rows, columns, rows in which this column has entries, and
-- number of entries
abbrev pub column_words_fault : List RowLine → List Name → List Name → ℕ → List Name → Option DeckWhy
column_words_fault rows columns here entries (c ∷ r ∷ v ∷ []) =
    split_fault columns c or entry_fault rows (has here r) r v or full_fault columns entries c 1
column_words_fault rows columns here entries (c ∷ r ∷ v ∷ s ∷ w ∷ []) =
    split_fault columns c or two_entries_fault rows here r v s w or full_fault columns entries c 2
column_words_fault rows columns here entries fs = Some FieldCount

abbrev pub column_fault : List RowLine → List Name → List Name → ℕ → List Name → Option DeckWhy
column_fault rows columns here entries fs = marker_fault fs or column_words_fault rows columns here entries fs

-- ---- RHS and RANGES

-- another set than this one, if there is one
abbrev pub set_fault : Option Name → Name → Option DeckWhy
set_fault None t = None
set_fault (Some s) t = fault_if (not (bytes_eq s t)) SecondSet

-- one or two rows with their values, below these rows and those that are given
abbrev pub one_row_value_fault : List RowLine → List RowValue → Name → Name → Option DeckWhy
one_row_value_fault rows gs r v = entry_fault rows (is_some (named gs r)) r v

abbrev pub two_row_values_fault : List RowLine → List RowValue → Name → Name → Name → Name → Option DeckWhy
two_row_values_fault rows gs r v s w = one_row_value_fault rows gs r v or one_row_value_fault rows (gs ++ row_value r v ∷ []) s w

-- a line of RHS or RANGES, below these rows, the set of the lines before it, and what they give
abbrev pub row_values_fault : List RowLine → Option Name → List RowValue → List Name → Option DeckWhy
row_values_fault rows set gs (r ∷ v ∷ []) = set_fault set [] or one_row_value_fault rows gs r v
row_values_fault rows set gs (t ∷ r ∷ v ∷ []) = set_fault set t or one_row_value_fault rows gs r v
row_values_fault rows set gs (r ∷ v ∷ s ∷ w ∷ []) = set_fault set [] or two_row_values_fault rows gs r v s w
row_values_fault rows set gs (t ∷ r ∷ v ∷ s ∷ w ∷ []) = set_fault set t or two_row_values_fault rows gs r v s w
row_values_fault rows set gs fs = Some FieldCount

-- ---- BOUNDS

-- the kinds that make a column whole or semicontinuous
abbrev pub is_integer_kind : Name → Bool
is_integer_kind w = bytes_eq w (codes "BV") || bytes_eq w (codes "LI") || bytes_eq w (codes "UI") || bytes_eq w (codes "SC")

abbrev pub unknown_kind_fault : Name → DeckWhy
unknown_kind_fault w = if is_integer_kind w then IntegerMarker else BoundKindWhy

abbrev pub bound_value_fault : Bool → Name → Option DeckWhy
bound_value_fault takes v = if takes then text_fault v else None

abbrev pub bound_words_fault : List Name → Option Name → Bool → Option BoundWords → Option DeckWhy
bound_words_fault columns set takes None = Some FieldCount
bound_words_fault columns set takes (Some w) =
    set_fault set w.set or fault_if (not (has columns w.column)) UnknownName or bound_value_fault takes w.value

abbrev pub bound_kind_fault : List Name → Option Name → Name → Option BoundKind → List Name → Option DeckWhy
bound_kind_fault columns set k None fs = Some (unknown_kind_fault k)
bound_kind_fault columns set k (Some kind) fs = bound_words_fault columns set (takes_value kind) (bound_words (takes_value kind) fs)

-- a line of BOUNDS, below these columns and the set of the lines before it
abbrev pub bound_fault : List Name → Option Name → List Name → Option DeckWhy
bound_fault columns set [] = Some FieldCount
bound_fault columns set (k ∷ fs) = bound_kind_fault columns set k (bound_kind k) fs

-- ---- PAIRS

abbrev pub is_kind : Name → Bool
is_kind w = bytes_eq w (codes "COL") || bytes_eq w (codes "ROW") || bytes_eq w (codes "UPC")

-- COL speaks of a column that is not fixed and has the lower bound 0
abbrev pub is_free_from_zero : Column → Bool
is_free_from_zero c = not c.fixed && is_zero c.lower.value

abbrev pub column_quantity_fault : List Name → (Name → Column) → Name → Option DeckWhy
column_quantity_fault columns bounds n = fault_if (not (has columns n)) UnknownName or fault_if (not (is_free_from_zero (bounds n))) PairLower

-- UPC speaks of a column that is not fixed and has an upper bound
abbrev pub has_upper : Column → Bool
has_upper c = not c.fixed && is_some c.upper.value

abbrev pub upper_quantity_fault : List Name → (Name → Column) → Name → Option DeckWhy
upper_quantity_fault columns bounds n = fault_if (not (has columns n)) UnknownName or fault_if (not (has_upper (bounds n))) PairUpper

-- ROW speaks of an L or G row
abbrev pub row_quantity_fault : Option RowLine → Option DeckWhy
row_quantity_fault None = Some UnknownName
row_quantity_fault (Some r) = fault_if (not (is_inequality r.letter)) PairKind

abbrev pub quantity_fault : List RowLine → List Name → (Name → Column) → Name → Name → Option DeckWhy
quantity_fault rows columns bounds kind n =
    if is_col kind then column_quantity_fault columns bounds n else
    if is_upc kind then upper_quantity_fault columns bounds n else row_quantity_fault (row_named rows n)

-- the kinds of a pair, and its name below these
abbrev pub pair_front_fault : List Name → Name → Name → Name → Option DeckWhy
pair_front_fault pairs p k l = fault_if (not (is_kind k) || not (is_kind l)) PairKind or fault_if (has pairs p) NameTwice

abbrev pub quantities_fault : List RowLine → List Name → (Name → Column) → Name → Name → Name → Name → Option DeckWhy
quantities_fault rows columns bounds k a l b = quantity_fault rows columns bounds k a or quantity_fault rows columns bounds l b

abbrev pub many_pairs_fault : List Name → Option DeckWhy
many_pairs_fault pairs = fault_if (nat_le MOST_PAIRS (length pairs)) TooMany

-- a line of PAIRS, below these rows, columns with their bounds, and pairs
abbrev pub pair_fault : List RowLine → List Name → (Name → Column) → List Name → List Name → Option DeckWhy
pair_fault rows columns bounds pairs (p ∷ k ∷ a ∷ l ∷ b ∷ []) =
    pair_front_fault pairs p k l or quantities_fault rows columns bounds k a l b or many_pairs_fault pairs
pair_fault rows columns bounds pairs fs = Some FieldCount

-- ---- GROUPS

-- one or more times a kind and a name
abbrev pub are_items : List Name → Bool
are_items ws = nat_lt 0 (length ws) && (length ws % 2) == 0

-- the words behind the name of a group, and the name below these
abbrev pub group_front_fault : List Name → Name → List Name → Option DeckWhy
group_front_fault groups g ws =
    fault_if (not (are_items ws)) FieldCount or fault_if (list_any (λ w. not (is_kind w.0)) (items_in ws)) PairKind
    or fault_if (is_split groups g) GroupSplit

abbrev pub items_fault : List RowLine → List Name → (Name → Column) → List ItemWords → Option DeckWhy
items_fault rows columns bounds [] = None
items_fault rows columns bounds (w ∷ ws) = quantity_fault rows columns bounds w.0 w.1 or items_fault rows columns bounds ws

-- so many further items, where so many pairs are made and the group has n items
abbrev pub full_group_fault : ℕ → ℕ → ℕ → Option DeckWhy
full_group_fault made n more = fault_if (nat_lt MOST_PAIRS (made + new_pairs n more)) TooMany

-- a line of GROUPS, below these rows, columns with their bounds, groups, n items of its group, and so many pairs
abbrev pub group_fault : List RowLine → List Name → (Name → Column) → List Name → ℕ → ℕ → List Name → Option DeckWhy
group_fault rows columns bounds groups n made (g ∷ ws) =
    group_front_fault groups g ws or items_fault rows columns bounds (items_in ws) or full_group_fault made n (length (items_in ws))
group_fault rows columns bounds groups n made fs = Some FieldCount

-- ---- lines

-- a data line in a section, below the lines before it
abbrev pub data_fault : Open → List Line → List Name → Option DeckWhy
data_fault (Some section.ObjSense) before fs = sense_fault (sense_named before) fs
data_fault (Some section.Rows) before fs = row_fault (rows_of (slice section.Rows before)) fs
data_fault (Some section.Columns) before fs =
    let entries = entries_in (slice section.Columns before) in
    column_fault (rows_of (slice section.Rows before)) (column_names (slice section.Columns before)) (rows_in (field 0 fs) entries) (length entries) fs
data_fault (Some section.Rhs) before fs =
    let rights = slice section.Rhs before in
    row_values_fault (rows_of (slice section.Rows before)) (first_set row_values_set rights) (row_values_in rights) fs
data_fault (Some section.Ranges) before fs =
    let ranges = slice section.Ranges before in
    row_values_fault (rows_of (slice section.Rows before)) (first_set row_values_set ranges) (row_values_in ranges) fs
data_fault (Some section.Bounds) before fs =
    bound_fault (column_names (slice section.Columns before)) (first_set bound_set (slice section.Bounds before)) fs
data_fault (Some section.Pairs) before fs =
    pair_fault (rows_of (slice section.Rows before)) (column_names (slice section.Columns before)) (column_bounds (settings_in (slice section.Bounds before))) (pair_names (slice section.Pairs before)) fs
data_fault (Some section.Groups) before fs =
    let rows = rows_of (slice section.Rows before) in
    let columns = column_names (slice section.Columns before) in
    let groups = slice section.Groups before in
    group_fault rows columns (column_bounds (settings_in (slice section.Bounds before))) (group_names groups) (length (items_of (field 0 fs) groups))
    (length (pair_names (slice section.Pairs before)) + length (group_pairs (deck_groups rows columns groups))) fs
data_fault s before fs = Some SectionOrder

-- a fault with the line at which it is named
abbrev pub Found : Type 0
Found = ℕ × DeckWhy

abbrev pub found_at : ℕ → DeckWhy → Found
found_at number w = (number, w)

abbrev pub named_at : ℕ → Option DeckWhy → Option Found
named_at number o = option_map (found_at number) o

abbrev pub below_zero_at : Option ℕ → Option Found
below_zero_at None = None
below_zero_at (Some line) = Some (line, UpperBelowZero)

-- what a section lacks that a head with this number ends: ROWS an objective, and BOUNDS a lower bound of a column with an
-- upper bound below 0, which is named at the line of the upper bound
abbrev pub end_fault : Open → List RowLine → Option ℕ → ℕ → Option Found
end_fault s rows below_zero number =
    named_at number (fault_if (is_open section.Rows s && not (has_objective rows)) NoObjective)
    or (if is_open section.Bounds s then below_zero_at below_zero else None)

abbrev pub ended_fault : List Line → ℕ → Option Found
ended_fault before number =
    end_fault (open_behind before) (rows_of (slice section.Rows before)) (upper_below_zero (settings_in (slice section.Bounds before))) number

abbrev pub order_fault : List Line → Section → Option DeckWhy
order_fault before t = fault_if (not (may_follow (open_rank (open_behind before)) (is_begun t before) t)) SectionOrder

abbrev pub kind_fault : List Line → ℕ → LineKind → List Name → Option Found
kind_fault before number Blank fs = None
kind_fault before number Comment fs = None
kind_fault before number (Head t) fs = ended_fault before number or named_at number (order_fault before t or head_words_fault t fs)
kind_fault before number LeftOut fs = ended_fault before number or Some (number, LeftOutSection)
kind_fault before number Unknown fs = Some (number, UnknownSection)
kind_fault before number Entry fs = named_at number (data_fault (open_behind before) before fs)

-- what is wrong with a line behind others, and the line at which it is named
abbrev pub fault_of : List Line → Line → Option Found
fault_of before l = kind_fault before l.number l.kind l.fields
