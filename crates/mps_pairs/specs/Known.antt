-- What the reader knows of the lines so far, how a line adds to it, and which fault a line has by it.
use Rattle.std.specs.Prelude.{ℕ, Bool, false, not, ◌||◌, List, [], ◌∷◌, ◌++◌, length, map, Option, Some, None, unwrap_or}
use Rattle.std.specs.List.{position_or_len}
use Rattle.sense.specs.declared.objective.Sense.{Sense}
use Rattle.sense.specs.declared.objective.Sense.TheVariants.{Min}
use Rattle.mps_lex.specs.Kinds.{Name}
use Rattle.mps_lex.specs.Lines.{Line}
use Rattle.mps_lex.specs.declared.line.Section.{Section}
use Rattle.mps_lex.specs.declared.line.Section.TheVariants as section
use Rattle.mps_lex.specs.declared.line.LineKind.{LineKind}
use Rattle.mps_lex.specs.declared.line.LineKind.TheVariants.{Blank, Comment, Head, LeftOut, Unknown, Entry}
use Rattle.decks.specs.declared.fault.DeckWhy.{DeckWhy}
use Rattle.decks.specs.declared.fault.DeckWhy.TheVariants.{SectionOrder, UnknownSection, LeftOutSection}
use Rattle.decks.specs.declared.deck.Deck.{Deck}
use Rattle.decks.specs.declared.deck.PairLine.{PairLine}
use Rattle.decks.specs.Sections.{Open, same_section, is_begun, open_behind, open_rank, slice, may_follow}
use Rattle.decks.specs.Spelling.{field, is_n, RowLine, row_line, rows_of, kept, column_names, deck_row, pair_names, pair_of, deck_pairs}
use Rattle.decks.specs.Bounds.{below_zero_line}
use Rattle.decks.specs.Senses.{earlier, sense_named, sense_on_head, sense_on_line}
use Rattle.decks.specs.Faults.{◌or◌, fault_if, head_words_fault, sense_fault, row_fault, column_fault, row_values_fault, bound_fault, pair_fault, Found, named_at, end_fault}
use Rattle.mps_tables.specs.Known.{KnownColumns, known_columns, rows_here, with_column, KnownRowValues, known_row_values, with_row_values, KnownBounds, known_bounds, bounds_with, with_bound}
use Rattle.mps_pairs.specs.Groups.{KnownGroups, known_groups, with_group, known_group_fault}
use Rattle.mps_pairs.specs.declared.sections.SectionState.{SectionState}

-- ---- the order of heads

-- whether each section of free order is begun, and what stands open
abbrev pub section_state : List Line → SectionState
section_state ls = record { current = open_behind ls; rhs = is_begun section.Rhs ls; ranges = is_begun section.Ranges ls; bounds = is_begun section.Bounds ls }

abbrev pub begun_by : SectionState → Section → Bool
begun_by c section.Rhs = c.rhs
begun_by c section.Ranges = c.ranges
begun_by c section.Bounds = c.bounds
begun_by c t = false

abbrev pub begin : SectionState → Section → SectionState
begin c t = record { current = Some t; rhs = c.rhs || same_section section.Rhs t; ranges = c.ranges || same_section section.Ranges t; bounds = c.bounds || same_section section.Bounds t }

abbrev pub next_section_state : SectionState → LineKind → SectionState
next_section_state c (Head t) = begin c t
next_section_state c kind = c

abbrev pub section_order_fault : SectionState → Section → Option DeckWhy
section_order_fault c t = fault_if (not (may_follow (open_rank c.current) (begun_by c t) t)) SectionOrder

-- ---- PAIRS

pub record KnownPairs : Type 0 where
  pub names : List Name
  pub pairs : List PairLine

abbrev pub known_pairs : List RowLine → List Name → List Line → KnownPairs
known_pairs rows columns ls = record { names = pair_names ls; pairs = deck_pairs rows columns ls }

abbrev pub with_pair : List RowLine → List Name → KnownPairs → List Name → KnownPairs
with_pair rows columns k fs = record { names = k.names ++ field 0 fs ∷ []; pairs = k.pairs ++ pair_of rows columns fs ∷ [] }

-- ---- the tables

pub record Known : Type 0 where
  pub sense : Option Sense
  pub rows : List RowLine
  pub columns : KnownColumns
  pub rights : KnownRowValues
  pub ranges : KnownRowValues
  pub bounds : KnownBounds
  pub pairs : KnownPairs
  pub groups : KnownGroups

-- what the tables hold, once lines that name this sense and have these slices are read
abbrev pub tables_of : Option Sense → List Line → List Line → List Line → List Line → List Line → List Line → List Line → Known
tables_of sense rs cs hs gs bs ps ts = record {
  sense = sense;
  rows = rows_of rs;
  columns = known_columns (rows_of rs) cs;
  rights = known_row_values hs;
  ranges = known_row_values gs;
  bounds = known_bounds bs;
  pairs = known_pairs (rows_of rs) (column_names cs) ps;
  groups = known_groups (rows_of rs) (column_names cs) ts;
}

abbrev pub known : List Line → Known
known ls =
    tables_of (sense_named ls) (slice section.Rows ls) (slice section.Columns ls) (slice section.Rhs ls) (slice section.Ranges ls) (slice section.Bounds ls) (slice section.Pairs ls)
    (slice section.Groups ls)

abbrev pub deck_from : Known → ℕ → Deck
deck_from k end_line = record {
  sense = unwrap_or k.sense Min;
  rows = map (deck_row k.rights.values k.ranges.values) (kept k.rows);
  objective = position_or_len (λ r. is_n r.letter) (kept k.rows);
  columns = map (bounds_with k.bounds.columns) k.columns.names;
  entries = k.columns.entries;
  pairs = k.pairs.pairs;
  groups = k.groups.groups;
  end_line = end_line;
}

abbrev pub with_data : Open → Known → ℕ → List Name → Known
with_data (Some section.ObjSense) k number fs = record k { sense = earlier k.sense (sense_on_line fs) }
with_data (Some section.Rows) k number fs = record k { rows = k.rows ++ row_line k.rows number fs ∷ [] }
with_data (Some section.Columns) k number fs = record k { columns = with_column k.rows k.columns fs }
with_data (Some section.Rhs) k number fs = record k { rights = with_row_values k.rights fs }
with_data (Some section.Ranges) k number fs = record k { ranges = with_row_values k.ranges fs }
with_data (Some section.Bounds) k number fs = record k { bounds = with_bound k.bounds number fs }
with_data (Some section.Pairs) k number fs = record k { pairs = with_pair k.rows k.columns.names k.pairs fs }
with_data (Some section.Groups) k number fs = record k { groups = with_group k.rows k.columns.names k.groups fs }
with_data s k number fs = k

abbrev pub with_head : Known → Section → List Name → Known
with_head k t fs = record k { sense = earlier k.sense (sense_on_head t fs) }

abbrev pub next_kind : Open → Known → ℕ → LineKind → List Name → Known
next_kind s k number Entry fs = with_data s k number fs
next_kind s k number (Head t) fs = with_head k t fs
next_kind s k number kind fs = k

abbrev pub next_known : Open → Known → Line → Known
next_known s k l = next_kind s k l.number l.kind l.fields

-- ---- the fault of a line, told from what stands open and the tables

abbrev pub known_fault : Open → Known → List Name → Option DeckWhy
known_fault (Some section.ObjSense) k fs = sense_fault k.sense fs
known_fault (Some section.Rows) k fs = row_fault k.rows fs
known_fault (Some section.Columns) k fs = column_fault k.rows k.columns.names (rows_here k.columns (field 0 fs)) k.columns.count fs
known_fault (Some section.Rhs) k fs = row_values_fault k.rows k.rights.set k.rights.values fs
known_fault (Some section.Ranges) k fs = row_values_fault k.rows k.ranges.set k.ranges.values fs
known_fault (Some section.Bounds) k fs = bound_fault k.columns.names k.bounds.set fs
known_fault (Some section.Pairs) k fs = pair_fault k.rows k.columns.names (bounds_with k.bounds.columns) k.pairs.names fs
known_fault (Some section.Groups) k fs = known_group_fault k.rows k.columns.names (bounds_with k.bounds.columns) k.groups (length k.pairs.names) fs
known_fault s k fs = Some SectionOrder

abbrev pub known_end_fault : SectionState → Known → ℕ → Option Found
known_end_fault c k number = end_fault c.current k.rows (below_zero_line (map (λ e. e.1) k.bounds.columns)) number

abbrev pub known_kind_fault : SectionState → Known → ℕ → LineKind → List Name → Option Found
known_kind_fault c k number Blank fs = None
known_kind_fault c k number Comment fs = None
known_kind_fault c k number (Head t) fs = known_end_fault c k number or named_at number (section_order_fault c t or head_words_fault t fs)
known_kind_fault c k number LeftOut fs = known_end_fault c k number or Some (number, LeftOutSection)
known_kind_fault c k number Unknown fs = Some (number, UnknownSection)
known_kind_fault c k number Entry fs = named_at number (known_fault c.current k fs)

abbrev pub line_fault : SectionState → Known → Line → Option Found
line_fault c k l = known_kind_fault c k l.number l.kind l.fields
