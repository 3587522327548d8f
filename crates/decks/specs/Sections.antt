-- Under `yes`: the sections of a deck: the slice of data lines of each, and the order of their heads.
use Rattle.std.specs.Prelude.{ℕ, Bool, true, false, not, ◌&&◌, ◌==◌, nat_le, if◌then◌else◌, List, [], ◌∷◌, ◌++◌, Option, Some, None}
use Rattle.std.specs.List.{list_any}
use Rattle.mps_lex.specs.declared.line.Section.{Section}
use Rattle.mps_lex.specs.declared.line.Section.TheVariants.{Name, ObjSense, Rows, Columns, Rhs, Ranges, Bounds, Pairs, Groups, Endata}
use Rattle.mps_lex.specs.declared.line.LineKind.{LineKind}
use Rattle.mps_lex.specs.declared.line.LineKind.TheVariants.{Head, Entry}
use Rattle.mps_lex.specs.Lines.{Line}

abbrev pub section_number : Section → ℕ
section_number Name = 1
section_number ObjSense = 2
section_number Rows = 3
section_number Columns = 4
section_number Rhs = 5
section_number Ranges = 6
section_number Bounds = 7
section_number Pairs = 8
section_number Groups = 9
section_number Endata = 10

abbrev pub same_section : Section → Section → Bool
same_section s t = section_number s == section_number t

-- the section that stands open, if one does
abbrev pub Open : Type 0
Open = Option Section

abbrev pub is_open : Section → Open → Bool
is_open t None = false
is_open t (Some s) = same_section t s

-- ---- slices

abbrev pub is_entry : LineKind → Bool
is_entry Entry = true
is_entry kind = false

-- what stands open behind a line
abbrev pub behind : Open → LineKind → Open
behind s (Head t) = Some t
behind s kind = s

-- what stands open behind lines, where s stood open before them
abbrev pub open_from : Open → List Line → Open
open_from s [] = s
open_from s (l ∷ ls) = open_from (behind s l.kind) ls

abbrev pub open_behind : List Line → Open
open_behind ls = open_from None ls

-- the line, where its kind is that of data lines and the section t stands open
abbrev pub data_line : Section → Open → LineKind → Line → List Line
data_line t s kind l = if is_entry kind && is_open t s then l ∷ [] else []

abbrev pub slice_from : Section → Open → List Line → List Line
slice_from t s [] = []
slice_from t s (l ∷ ls) = data_line t s l.kind l ++ slice_from t (behind s l.kind) ls

-- the slice of a section: the data lines whose nearest head above is that section's
abbrev pub slice : Section → List Line → List Line
slice t ls = slice_from t None ls

-- ---- the order of heads

abbrev pub is_head : Section → LineKind → Bool
is_head t (Head s) = same_section t s
is_head t kind = false

-- whether a section is begun in lines
abbrev pub is_begun : Section → List Line → Bool
is_begun t ls = list_any (λ l. is_head t l.kind) ls

-- RHS, RANGES and BOUNDS have one rank, since they come in any order
abbrev pub rank : Section → ℕ
rank Name = 1
rank ObjSense = 2
rank Rows = 3
rank Columns = 4
rank Rhs = 5
rank Ranges = 5
rank Bounds = 5
rank Pairs = 6
rank Groups = 7
rank Endata = 8

abbrev pub open_rank : Open → ℕ
open_rank None = 0
open_rank (Some s) = rank s

-- whether a section may begin behind one of this rank, where it is begun already or not. NAME comes first if it comes,
-- then OBJSENSE if it comes, then ROWS and COLUMNS; of the later ones each may be missing, and ENDATA ends the deck
abbrev pub may_follow : ℕ → Bool → Section → Bool
may_follow from begun Name = nat_le from 0
may_follow from begun ObjSense = nat_le from 1
may_follow from begun Rows = nat_le from 2
may_follow from begun Columns = from == 3
may_follow from begun Rhs = nat_le 4 from && nat_le from 5 && not begun
may_follow from begun Ranges = nat_le 4 from && nat_le from 5 && not begun
may_follow from begun Bounds = nat_le 4 from && nat_le from 5 && not begun
may_follow from begun Pairs = nat_le 4 from && nat_le from 5
may_follow from begun Groups = nat_le 4 from && nat_le from 6
may_follow from begun Endata = nat_le 4 from && nat_le from 7
