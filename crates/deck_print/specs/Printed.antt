-- Decks with names for their rows and columns, and the texts that say them line by line.
use Rattle.std.specs.Prelude.{◌≡◌, ◌<◌, ◌+◌, ◌^◌, ◌==◌, ◌⊎◌, ℕ, suc, pos, Bool, false, if◌then◌else◌, List, [], ◌∷◌, ◌++◌, map, length, slice_index_or, unsigned_abs, codes, None, is_some}
use Rattle.std.specs.Fmt.{decimal, signed_decimal}
use Rattle.std.specs.List.{AllByRecursion, flat_map}
use Rattle.std.specs.Str.{bytes_eq}
use Rattle.sense.specs.declared.objective.Sense.TheVariants.{Min}
use Rattle.lp_nums.specs.Fractions.{Fraction}
use Rattle.mps_lex.specs.Kinds.{Name}
use Rattle.decks.specs.Bounds.{default_column}
use Rattle.decks.specs.Names.{has}
use Rattle.decks.specs.Spelling.{is_n}
use Rattle.decks.specs.declared.deck.Column.{Column}
use Rattle.decks.specs.declared.deck.Deck.{Deck}
use Rattle.decks.specs.declared.deck.Entry.{Entry}
use Rattle.decks.specs.declared.deck.Letter.{Letter}
use Rattle.decks.specs.declared.deck.Letter.TheVariants.{N, E, L, G}
use Rattle.decks.specs.declared.deck.PairLine.{PairLine}
use Rattle.decks.specs.declared.deck.Quantity.TheVariants.{Col, Row}
use Rattle.decks.specs.declared.deck.Row as rows

abbrev pub NamedRow : Type 0
NamedRow = Name × rows.Row

abbrev pub NamedColumn : Type 0
NamedColumn = Name × Column

abbrev pub row_name : NamedRow → Name
row_name r = r.0

abbrev pub column_name : NamedColumn → Name
column_name c = c.0

abbrev pub row_of : NamedRow → rows.Row
row_of r = r.1

abbrev pub column_of : NamedColumn → Column
column_of c = c.1

-- a deck with the name of its problem, with named rows, the objective first, named columns, and pairs of a row and a column. Sections without lines may be left out
pub record Printed : Type 0 where
  pub name : Name
  pub objective : NamedRow
  pub others : List NamedRow
  pub columns : List NamedColumn
  pub entries : List Entry
  pub pairs : List (ℕ × ℕ)
  pub has_rights : Bool
  pub has_bounds : Bool
  pub has_pairs : Bool

abbrev pub rows_of : Printed → List NamedRow
rows_of p = p.objective ∷ p.others

abbrev pub row_names : Printed → List Name
row_names p = map row_name (rows_of p)

abbrev pub column_names : Printed → List Name
column_names p = map column_name p.columns

-- a row and a column
abbrev pub pair_of : ℕ × ℕ → PairLine
pair_of q = record { a = Row q.0; b = Col q.1 }

-- the deck, ENDATA standing on a line of this number
abbrev pub printed_deck : Printed → ℕ → Deck
printed_deck p end = record {
  sense = Min;
  rows = map row_of (rows_of p);
  objective = 0;
  columns = map column_of p.columns;
  entries = p.entries;
  pairs = map pair_of p.pairs;
  groups = [];
  end_line = end;
}

-- ---- the words of lines

abbrev pub letter_word : Letter → Name
letter_word N = codes "N"
letter_word E = codes "E"
letter_word L = codes "L"
letter_word G = codes "G"

abbrev pub name_at : List Name → ℕ → Name
name_at ns i = slice_index_or ns i []

abbrev pub row_words : NamedRow → List Name
row_words r = letter_word r.1.letter ∷ r.0 ∷ []

abbrev pub entry_words : List Name → List Name → Entry → List Name
entry_words rows columns e = name_at columns e.column ∷ name_at rows e.row ∷ signed_decimal e.value.num ∷ []

abbrev pub is_nothing : Fraction → Bool
is_nothing f = unsigned_abs f.num == 0

-- a right-hand side that is 0 has no line
abbrev pub right_words : NamedRow → List (List Name)
right_words r = if is_nothing r.1.rhs then [] else (codes "rhs" ∷ r.0 ∷ signed_decimal r.1.rhs.num ∷ []) ∷ []

abbrev pub is_bounded : Column → Bool
is_bounded c = is_some c.lower.value

-- a column that has a lower bound has no line
abbrev pub bound_words : NamedColumn → List (List Name)
bound_words c = if is_bounded c.1 then [] else (codes "FR" ∷ codes "bnd" ∷ c.0 ∷ []) ∷ []

-- a letter and a number: what is named is counted from 0 here, and from 1 in the text
abbrev pub numbered_name : ℕ → ℕ → Name
numbered_name letter k = letter ∷ decimal (k + 1)

-- p and a number
abbrev pub pair_name : ℕ → Name
pair_name k = numbered_name 112 k

abbrev pub pair_words : List Name → List Name → ℕ → ℕ × ℕ → List Name
pair_words rows columns k q = pair_name k ∷ codes "ROW" ∷ name_at rows q.0 ∷ codes "COL" ∷ name_at columns q.1 ∷ []

-- the lines of pairs, of which the first has this number
abbrev pub pairs_words : List Name → List Name → ℕ → List (ℕ × ℕ) → List (List Name)
pairs_words rows columns k [] = []
pairs_words rows columns k (q ∷ qs) = pair_words rows columns k q ∷ pairs_words rows columns (k + 1) qs

-- ---- the text

-- a blank before each word, and an LF
abbrev pub line_text : List Name → List ℕ
line_text [] = codes "\n"
line_text (w ∷ ws) = 32 ∷ w ++ line_text ws

abbrev pub data_text : List (List Name) → List ℕ
data_text wss = flat_map line_text wss

abbrev pub section_text : Bool → List ℕ → List (List Name) → List ℕ
section_text here head wss = if here then head ++ data_text wss else []

abbrev pub rows_words : Printed → List (List Name)
rows_words p = map row_words (rows_of p)

abbrev pub entries_words : Printed → List (List Name)
entries_words p = map (entry_words (row_names p) (column_names p)) p.entries

abbrev pub rights_words : Printed → List (List Name)
rights_words p = flat_map right_words (rows_of p)

abbrev pub bounds_words : Printed → List (List Name)
bounds_words p = flat_map bound_words p.columns

abbrev pub all_pairs_words : Printed → List (List Name)
all_pairs_words p = pairs_words (row_names p) (column_names p) 0 p.pairs

abbrev pub printed_text : Printed → List ℕ
printed_text p =
    (codes "NAME " ++ (p.name ++ codes "\n")) ++
    ((codes "ROWS\n" ++ data_text (rows_words p)) ++
    ((codes "COLUMNS\n" ++ data_text (entries_words p)) ++
    (section_text p.has_rights (codes "RHS\n") (rights_words p) ++
    (section_text p.has_bounds (codes "BOUNDS\n") (bounds_words p) ++
    (section_text p.has_pairs (codes "PAIRS\n") (all_pairs_words p) ++
    codes "ENDATA\n")))))

-- ---- the numbers of lines

abbrev pub lines_of_section : Bool → List (List Name) → ℕ
lines_of_section here wss = if here then 1 + length wss else 0

-- the line behind the last entry
abbrev pub behind_entries : Printed → ℕ
behind_entries p = 3 + length (rows_words p) + 1 + length (entries_words p)

abbrev pub behind_rights : Printed → ℕ
behind_rights p = behind_entries p + lines_of_section p.has_rights (rights_words p)

abbrev pub behind_bounds : Printed → ℕ
behind_bounds p = behind_rights p + lines_of_section p.has_bounds (bounds_words p)

-- the line of ENDATA
abbrev pub end_of : Printed → ℕ
end_of p = behind_bounds p + lines_of_section p.has_pairs (all_pairs_words p)

-- ---- what the parts keep

-- bytes above those of blanks and of line ends
abbrev pub ArePlain : List ℕ → Type 0
ArePlain w = AllByRecursion (λ b. 32 < b) w

pub record IsWord (w : Name) : Type 0 where
  pub some : 0 < length w
  pub plain : ArePlain w

abbrev pub AreDistinct : List Name → Type 0
AreDistinct [] = Unit {0}
AreDistinct (n ∷ ns) = (has ns n ≡ false) × AreDistinct ns

-- a whole number that a line can give
pub record IsWhole (f : Fraction) : Type 0 where
  pub whole : f.den ≡ pos 1
  pub few : unsigned_abs f.num < 10 ^ 18

-- a row on the line of this number
pub record IsRowOn (line : ℕ) (r : rows.Row) : Type 0 where
  pub line_is : r.line ≡ line
  pub right : IsWhole r.rhs
  pub no_range : r.range ≡ None

-- rows on the lines from this one on
abbrev pub AreRowsFrom : ℕ → List NamedRow → Type 0
AreRowsFrom line [] = Unit {0}
AreRowsFrom line (r ∷ rs) = IsRowOn line r.1 × AreRowsFrom (line + 1) rs

abbrev pub free_column : ℕ → Column
free_column line = record { lower = record { value = None; line = line }; upper = record { value = None; line = line }; fixed = false }

-- each column is as no line says, or free by a line, of which the first has this number
abbrev pub AreColumnsFrom : ℕ → List NamedColumn → Type 0
AreColumnsFrom line [] = Unit {0}
AreColumnsFrom line (c ∷ cs) = ((c.1 ≡ default_column) × AreColumnsFrom line cs) ⊎ ((c.1 ≡ free_column line) × AreColumnsFrom (line + 1) cs)

-- the entries of n columns, of which so many have begun, column by column, with one at least for each
abbrev pub FollowColumns : ℕ → ℕ → List Entry → Type 0
FollowColumns n begun [] = begun ≡ n
FollowColumns n begun (e ∷ es) = ((e.column ≡ begun) × FollowColumns n (suc begun) es) ⊎ ((suc e.column ≡ begun) × FollowColumns n begun es)

abbrev pub IsOther : NamedRow → Type 0
IsOther r = is_n r.1.letter ≡ false

-- a row's name as a second word of COLUMNS begins no marker
abbrev pub IsNoMarker : NamedRow → Type 0
IsNoMarker r = bytes_eq r.0 (codes "'MARKER'") ≡ false

pub record IsPrinted (p : Printed) : Type 0 where
  pub title : ArePlain p.name
  pub row_words : AllByRecursion IsWord (row_names p)
  pub column_words : AllByRecursion IsWord (column_names p)
  pub row_names : AreDistinct (row_names p)
  pub column_names : AreDistinct (column_names p)
  pub no_markers : AllByRecursion IsNoMarker (rows_of p)
  pub objective : p.objective.1.letter ≡ N
  pub others : AllByRecursion IsOther p.others
  pub rows : AreRowsFrom 3 (rows_of p)
  pub columns : AreColumnsFrom (behind_rights p + 1) p.columns
  pub entries : AllByRecursion (λ e. IsWhole e.value) p.entries
  pub order : FollowColumns (length p.columns) 0 p.entries
  pub rights : p.has_rights ≡ false → rights_words p ≡ []
  pub bounds : p.has_bounds ≡ false → bounds_words p ≡ []
  pub pairs : p.has_pairs ≡ false → p.pairs ≡ []
