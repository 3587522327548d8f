-- The reader's tables and its state follow the lines.
use Rattle.std.proofs.Common.{ℕ, ◌≡◌, ◌+◌, Bool, true, false, ◌||◌, List, [], ◌∷◌, ◌++◌, length, map, Option, Some, None, refl, sym, ap, ◌∙◌, arith}
use Rattle.std.proofs.lemmas.List.Folds.{list_any-append}
use Rattle.std.specs.List.{AllByRecursion}
use Rattle.sense.specs.declared.objective.Sense.{Sense}
use Rattle.mps_lex.specs.Kinds.{Name as Word}
use Rattle.mps_lex.specs.Lines.{Line}
use Rattle.mps_lex.specs.declared.line.Section.{Section}
use Rattle.mps_lex.specs.declared.line.Section.TheVariants.{Name, ObjSense, Rows, Columns, Rhs, Ranges, Bounds, Pairs, Groups, Endata}
use Rattle.mps_lex.specs.declared.line.LineKind.{LineKind}
use Rattle.mps_lex.specs.declared.line.LineKind.TheVariants.{Blank, Comment, Head, LeftOut, Unknown, Entry}
use Rattle.decks.specs.declared.deck.Column.{Column}
use Rattle.decks.specs.declared.deck.Deck.{Deck}
use Rattle.decks.specs.declared.fault.DeckWhy.TheVariants.{LeftOutSection}
use Rattle.mps_pairs.specs.declared.sections.SectionState.{SectionState}
use Rattle.decks.specs.Sections.{Open, is_head, is_begun, behind, open_from, open_behind, slice}
use Rattle.decks.specs.Senses.{sense_on, earlier, sense_from, sense_named}
use Rattle.decks.specs.Bounds.{settings_in, column_bounds}
use Rattle.mps_pairs.specs.Groups.{known_groups, known_group_fault}
use Rattle.decks.specs.Spelling.{field, rows_of, entries_in, rows_in, column_names, pair_names, items_of, group_names, deck_groups, deck_of}
use Rattle.decks.specs.Decks.{group_pairs}
use Rattle.decks.specs.Faults.{◌or◌, Found, found_at, named_at, head_words_fault, end_fault, ended_fault, order_fault, data_fault, kind_fault, fault_of, pair_fault}
use Rattle.mps_pairs.specs.Known.{section_state, next_section_state, section_order_fault, Known, known, tables_of, with_data, next_kind, next_known, deck_from, known_fault, known_end_fault, known_kind_fault, line_fault}
use Rattle.decks.proofs.KeptParts.{map_none}
use Rattle.decks.proofs.KeptRows.{rows_kept}
use Rattle.decks.proofs.KeptEntries.{IsNamed}
use Rattle.decks.proofs.KeptColumns.{columns_kept}
use Rattle.decks.proofs.KeptSlices.{open_push, Slices, slices_of, next_slices, slices_grown, IsRight, LinesRight}
use Rattle.mps_pairs.proofs.GrowingBounds.{bounds_same, below_same, bounds_push}
use Rattle.mps_pairs.proofs.GrowingGroups.{IsWholeGroup, groups_push, group_whole, group_fault_same}
use Rattle.mps_pairs.proofs.Growing.{rows_push, known_columns_push, line_whole, column_fault_same, set_and_values_push, pairs_push}

-- ---- the state

or_none : (b : Bool) → (b || false) ≡ b
or_none true = refl
or_none false = refl

begun_push : (t : Section) (ls : List Line) (l : Line) → is_begun t (ls ++ l ∷ []) ≡ (is_begun t ls || is_head t l.kind)
begun_push t ls l = list_any-append (λ (x : Line). is_head t x.kind) ls (l ∷ []) ∙ ap (λ (b : Bool). is_begun t ls || b) (or_none (is_head t l.kind))

abbrev state_behind : SectionState → LineKind → SectionState
state_behind c kind = record { current = behind c.current kind; rhs = c.rhs || is_head Rhs kind; ranges = c.ranges || is_head Ranges kind; bounds = c.bounds || is_head Bounds kind }

same_state : (c : SectionState) → record { current = c.current; rhs = c.rhs || false; ranges = c.ranges || false; bounds = c.bounds || false } ≡ c
same_state c = λ i. record { current = c.current; rhs = or_none c.rhs i; ranges = or_none c.ranges i; bounds = or_none c.bounds i }

state_next : (c : SectionState) (kind : LineKind) → state_behind c kind ≡ next_section_state c kind
state_next c Blank = same_state c
state_next c Comment = same_state c
state_next c (Head t) = refl
state_next c LeftOut = same_state c
state_next c Unknown = same_state c
state_next c Entry = same_state c

pub section_state_push : (ls : List Line) (l : Line) → section_state (ls ++ l ∷ []) ≡ next_section_state (section_state ls) l.kind
section_state_push ls l =
    (λ i. record { current = open_push None ls l i; rhs = begun_push Rhs ls l i; ranges = begun_push Ranges ls l i; bounds = begun_push Bounds ls l i })
    ∙ state_next (section_state ls) l.kind

order_same : (before : List Line) (t : Section) → section_order_fault (section_state before) t ≡ order_fault before t
order_same before Name = refl
order_same before ObjSense = refl
order_same before Rows = refl
order_same before Columns = refl
order_same before Rhs = refl
order_same before Ranges = refl
order_same before Bounds = refl
order_same before Pairs = refl
order_same before Groups = refl
order_same before Endata = refl

-- ---- the fault

abbrev columns_named : List Line → Type 0
columns_named cs = AllByRecursion (IsNamed (column_names cs)) (entries_in cs)

-- each entry stands in a column that is named
named : (s : Open) (before : List Line) → IsRight s (slices_of before) → columns_named (slice Columns before)
named s before right = (columns_kept (slice Rows before) (slice Columns before) (rows_kept (slice Rows before) right.rows) right.columns).entries.named

data_same : (s : Open) (before : List Line) (fs : List Word) → columns_named (slice Columns before) → known_fault s (known before) fs ≡ data_fault s before fs
data_same None before fs n = refl
data_same (Some Name) before fs n = refl
data_same (Some ObjSense) before fs n = refl
data_same (Some Rows) before fs n = refl
data_same (Some Columns) before fs n = column_fault_same (rows_of (slice Rows before)) (slice Columns before) fs n
data_same (Some Rhs) before fs n = refl
data_same (Some Ranges) before fs n = refl
data_same (Some Bounds) before fs n = refl
data_same (Some Pairs) before fs n =
    let ss = settings_in (slice Bounds before) in
    λ i. pair_fault (rows_of (slice Rows before)) (column_names (slice Columns before)) (λ (c : Word). bounds_same ss c i) (pair_names (slice Pairs before)) fs
data_same (Some Groups) before fs n =
    let rs = rows_of (slice Rows before) in
    let cs = column_names (slice Columns before) in
    let ts = slice Groups before in
    let ss = settings_in (slice Bounds before) in
    let made = length (pair_names (slice Pairs before)) in
    (λ i. known_group_fault rs cs (λ (c : Word). bounds_same ss c i) (known_groups rs cs ts) made fs) ∙ group_fault_same rs cs (column_bounds ss) ts made fs
data_same (Some Endata) before fs n = refl

end_same : (before : List Line) (number : ℕ) → known_end_fault (section_state before) (known before) number ≡ ended_fault before number
end_same before number = ap (λ (x : Option ℕ). end_fault (open_behind before) (rows_of (slice Rows before)) x number) (below_same (settings_in (slice Bounds before)))

kind_same : (before : List Line) (number : ℕ) (kind : LineKind) (fs : List Word) → columns_named (slice Columns before) → known_kind_fault (section_state before) (known before) number kind fs ≡ kind_fault before number kind fs
kind_same before number Blank fs n = refl
kind_same before number Comment fs n = refl
kind_same before number (Head t) fs n = λ i. end_same before number i or named_at number (order_same before t i or head_words_fault t fs)
kind_same before number LeftOut fs n = ap (λ (x : Option Found). x or Some (found_at number LeftOutSection)) (end_same before number)
kind_same before number Unknown fs n = refl
kind_same before number Entry fs n = ap (named_at number) (data_same (open_behind before) before fs n)

pub fault_same : (before : List Line) (l : Line) → LinesRight before → line_fault (section_state before) (known before) l ≡ fault_of before l
fault_same before l right = kind_same before l.number l.kind l.fields (named (open_behind before) before right)

-- ---- the sense

none_later : (o : Option Sense) → earlier o None ≡ o
none_later None = refl
none_later (Some s) = refl

earlier_still : (a b c : Option Sense) → earlier a (earlier b c) ≡ earlier (earlier a b) c
earlier_still None b c = refl
earlier_still (Some s) b c = refl

sense_push : (s : Open) (ls : List Line) (l : Line) → sense_from s (ls ++ l ∷ []) ≡ earlier (sense_from s ls) (sense_on (open_from s ls) l.kind l.fields)
sense_push s [] l = none_later (sense_on s l.kind l.fields)
sense_push s (x ∷ ls) l =
    ap (earlier (sense_on s x.kind x.fields)) (sense_push (behind s x.kind) ls l)
    ∙ earlier_still (sense_on s x.kind x.fields) (sense_from (behind s x.kind) ls) (sense_on (open_from (behind s x.kind) ls) l.kind l.fields)

-- ---- the tables

abbrev tables_from : Option Sense → Slices → Known
tables_from o k = tables_of o k.rows k.columns k.rights k.ranges k.bounds k.pairs k.groups

rows_step : (o : Option Sense) (s : Slices) (l : Line) → s.columns ≡ [] → s.pairs ≡ [] → s.groups ≡ [] → tables_from o (record s { rows = s.rows ++ l ∷ [] }) ≡ with_data (Some Rows) (tables_from o s) l.number l.fields
rows_step o s l ec ep eg =
    (λ i. tables_of o (s.rows ++ l ∷ []) (ec i) s.rights s.ranges s.bounds (ep i) (eg i))
    ∙ (λ i. record (tables_of o s.rows [] s.rights s.ranges s.bounds [] []) { rows = rows_push s.rows l i })
    ∙ (λ i. with_data (Some Rows) (tables_of o s.rows (sym ec i) s.rights s.ranges s.bounds (sym ep i) (sym eg i)) l.number l.fields)

columns_step : (o : Option Sense) (before : List Line) (l : Line) → IsRight (Some Columns) (slices_of before) → data_fault (Some Columns) before l.fields ≡ None
    → tables_from o (next_slices (Some Columns) Entry l (slices_of before)) ≡ with_data (Some Columns) (tables_from o (slices_of before)) l.number l.fields
columns_step o before l h e =
    let rs = slice Rows before in
    let cs = slice Columns before in
    let hs = slice Rhs before in
    let gs = slice Ranges before in
    let bs = slice Bounds before in
    let ep = h.order.pairs (omega arith) in
    let eg = h.order.groups (omega arith) in
    let whole = line_whole (rows_of rs) (column_names cs) (rows_in (field 0 l.fields) (entries_in cs)) (length (entries_in cs)) l.fields e in
    let step = known_columns_push (rows_of rs) cs l whole (named (Some Columns) before h) in
    (λ i. tables_of o rs (cs ++ l ∷ []) hs gs bs (ep i) (eg i))
    ∙ (λ i. record (tables_of o rs cs hs gs bs [] []) { columns = step i })
    ∙ (λ i. with_data (Some Columns) (tables_of o rs cs hs gs bs (sym ep i) (sym eg i)) l.number l.fields)

groups_whole : (before : List Line) (fs : List Word) → data_fault (Some Groups) before fs ≡ None → IsWholeGroup (slice Groups before) fs
groups_whole before fs e =
    let rs = rows_of (slice Rows before) in
    let cs = column_names (slice Columns before) in
    let ts = slice Groups before in
    group_whole rs cs (column_bounds (settings_in (slice Bounds before))) (group_names ts) (length (items_of (field 0 fs) ts)) (length (pair_names (slice Pairs before)) + length (group_pairs (deck_groups rs cs ts))) fs e

-- a line of a section that names no sense
data_step : (o : Option Sense) (s : Open) (before : List Line) (l : Line) → IsRight s (slices_of before) → data_fault s before l.fields ≡ None
    → tables_from (earlier o (sense_on s Entry l.fields)) (next_slices s Entry l (slices_of before)) ≡ with_data s (tables_from o (slices_of before)) l.number l.fields
data_step o None before l h e = absurd cc
data_step o (Some Name) before l h e = absurd cc
data_step o (Some ObjSense) before l h e = refl
data_step o (Some Rows) before l h e =
    ap (λ (x : Option Sense). tables_from x (next_slices (Some Rows) Entry l (slices_of before))) (none_later o)
    ∙ rows_step o (slices_of before) l (h.order.columns (omega arith)) (h.order.pairs (omega arith)) (h.order.groups (omega arith))
data_step o (Some Columns) before l h e =
    ap (λ (x : Option Sense). tables_from x (next_slices (Some Columns) Entry l (slices_of before))) (none_later o) ∙ columns_step o before l h e
data_step o (Some Rhs) before l h e = λ i. record (tables_from (none_later o i) (slices_of before)) { rights = set_and_values_push (slice Rhs before) l i }
data_step o (Some Ranges) before l h e = λ i. record (tables_from (none_later o i) (slices_of before)) { ranges = set_and_values_push (slice Ranges before) l i }
data_step o (Some Bounds) before l h e = λ i. record (tables_from (none_later o i) (slices_of before)) { bounds = bounds_push (slice Bounds before) l i }
data_step o (Some Pairs) before l h e = λ i. record (tables_from (none_later o i) (slices_of before)) { pairs = pairs_push (rows_of (slice Rows before)) (column_names (slice Columns before)) (slice Pairs before) l i }
data_step o (Some Groups) before l h e =
    let step = groups_push (rows_of (slice Rows before)) (column_names (slice Columns before)) (slice Groups before) l (groups_whole before l.fields e) in
    λ i. record (tables_from (none_later o i) (slices_of before)) { groups = step i }
data_step o (Some Endata) before l h e = absurd cc

quiet : (o : Option Sense) (k : Slices) → tables_from (earlier o None) k ≡ tables_from o k
quiet o k = ap (λ (x : Option Sense). tables_from x k) (none_later o)

kind_step : (o : Option Sense) (before : List Line) (l : Line) (number : ℕ) (kind : LineKind) → LinesRight before → kind_fault before number kind l.fields ≡ None
    → tables_from (earlier o (sense_on (open_behind before) kind l.fields)) (next_slices (open_behind before) kind l (slices_of before)) ≡ next_kind (open_behind before) (tables_from o (slices_of before)) l.number kind l.fields
kind_step o before l number Blank h e = quiet o (slices_of before)
kind_step o before l number Comment h e = quiet o (slices_of before)
kind_step o before l number (Head t) h e = refl
kind_step o before l number LeftOut h e = quiet o (slices_of before)
kind_step o before l number Unknown h e = quiet o (slices_of before)
kind_step o before l number Entry h e = data_step o (open_behind before) before l h (map_none (found_at number) _ e)

-- the tables that the code has behind a line are those of the lines
pub known_push : (before : List Line) (l : Line) → LinesRight before → fault_of before l ≡ None → known (before ++ l ∷ []) ≡ next_known (open_behind before) (known before) l
known_push before l h e = (λ i. tables_from (sense_push None before l i) (slices_grown before l i)) ∙ kind_step (sense_named before) before l l.number l.kind h e

-- ---- the deck

abbrev deck_with : List Line → ℕ → (Word → Column) → Deck
deck_with ls number bounds = record (deck_of ls number) { columns = map bounds (column_names (slice Columns ls)) }

pub deck_same : (ls : List Line) (number : ℕ) → deck_from (known ls) number ≡ deck_of ls number
deck_same ls number = λ i. deck_with ls number (λ (c : Word). bounds_same (settings_in (slice Bounds ls)) c i)
