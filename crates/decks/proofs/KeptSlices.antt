-- Clean lines leave clean slices: each line of a section is right behind those of its slice, below the slices of the
-- earlier sections, which are whole by then.
use Rattle.std.proofs.Common.{ℕ, ◌+◌, ◌≤◌, ◌<◌, ◌≡◌, Bool, true, false, not, ◌&&◌, cond, List, [], ◌∷◌, ◌++◌, length, Option, Some, None, refl, sym, ap, subst, ◌∙◌, append_assoc, leb, arith}
use Rattle.std.proofs.lemmas.Bool.{and_parts, leb-true, eqb-true, not-false, true≢false}
use Rattle.std.proofs.lemmas.List.{append-nil}
use Rattle.std.specs.List.{AllByRecursion}
use Rattle.mps_lex.specs.Kinds.{Name as Word}
use Rattle.mps_lex.specs.Lines.{Line}
use Rattle.mps_lex.specs.declared.line.Section.{Section}
use Rattle.mps_lex.specs.declared.line.Section.TheVariants.{Name, ObjSense, Rows, Columns, Rhs, Ranges, Bounds, Pairs, Groups, Endata}
use Rattle.mps_lex.specs.declared.line.LineKind.{LineKind}
use Rattle.mps_lex.specs.declared.line.LineKind.TheVariants.{Blank, Comment, Head, LeftOut, Unknown, Entry}
use Rattle.decks.specs.declared.fault.DeckWhy.{DeckWhy}
use Rattle.decks.specs.declared.fault.DeckWhy.TheVariants.{NoObjective, SectionOrder}
use Rattle.decks.specs.Bounds.{bound_set, settings_in, column_bounds}
use Rattle.decks.specs.Sections.{Open, is_open, is_entry, behind, open_from, open_behind, data_line, slice_from, slice, is_begun, rank, open_rank, may_follow}
use Rattle.decks.specs.Spelling.{field, rows_of, rows_in, has_objective, entries_in, column_names, row_values_set, row_values_in, first_set, pair_names, items_of, group_names, deck_groups}
use Rattle.decks.specs.Decks.{group_pairs}
use Rattle.decks.specs.Faults.{◌or◌, fault_of, kind_fault, data_fault, ended_fault, order_fault, found_at, named_at, head_words_fault, row_fault, column_fault, row_values_fault, bound_fault, pair_fault, group_fault}
use Rattle.decks.specs.Texts.{IsClean, ends_deck}
use Rattle.decks.proofs.KeptParts.{first_none, second_none, if_none, unless_none, map_none}

-- ---- slices of one line more

pub open_push : (s : Open) (ls : List Line) (l : Line) → open_from s (ls ++ l ∷ []) ≡ behind (open_from s ls) l.kind
open_push s [] l = refl
open_push s (x ∷ ls) l = open_push (behind s x.kind) ls l

pub slice_push : (t : Section) (s : Open) (ls : List Line) (l : Line) → slice_from t s (ls ++ l ∷ []) ≡ slice_from t s ls ++ data_line t (open_from s ls) l.kind l
slice_push t s [] l = append-nil (data_line t s l.kind l)
slice_push t s (x ∷ ls) l =
    ap (λ (y : List Line). data_line t s x.kind x ++ y) (slice_push t (behind s x.kind) ls l)
    ∙ sym (append_assoc (data_line t s x.kind x) (slice_from t (behind s x.kind) ls) (data_line t (open_from (behind s x.kind) ls) l.kind l))

-- the line behind these, where it is of their section
abbrev pub grown : Bool → Line → List Line → List Line
grown true l ls = ls ++ l ∷ []
grown false l ls = ls

grown_is : (b : Bool) (l : Line) (ls : List Line) → ls ++ cond b (l ∷ []) [] ≡ grown b l ls
grown_is true l ls = refl
grown_is false l ls = append-nil ls

pub slice_grown : (t : Section) (ls : List Line) (l : Line) → slice t (ls ++ l ∷ []) ≡ grown (is_entry l.kind && is_open t (open_behind ls)) l (slice t ls)
slice_grown t ls l = slice_push t None ls l ∙ grown_is (is_entry l.kind && is_open t (open_behind ls)) l (slice t ls)

-- ---- a slice whose lines are right

abbrev pub FaultBehind : Type 0
FaultBehind = List Line → List Word → Option DeckWhy

abbrev pub IsRightBy : FaultBehind → List Line → List Line → Type 0
IsRightBy fault before [] = Unit {0}
IsRightBy fault before (l ∷ ls) = (fault before l.fields ≡ None) × IsRightBy fault (before ++ l ∷ []) ls

right_push : (fault : FaultBehind) (before ls : List Line) (l : Line) → IsRightBy fault before ls → fault (before ++ ls) l.fields ≡ None → IsRightBy fault before (ls ++ l ∷ [])
right_push fault before [] l h e = (subst (λ (x : List Line). fault x l.fields ≡ None) (append-nil before) e, tt)
right_push fault before (m ∷ ls) l h e = (h.0, right_push fault (before ++ m ∷ []) ls l h.1 (subst (λ (x : List Line). fault x l.fields ≡ None) (sym (append_assoc before (m ∷ []) ls)) e))

right_nil : (fault : FaultBehind) (ls : List Line) → ls ≡ [] → IsRightBy fault [] ls
right_nil fault ls e = subst (λ (x : List Line). IsRightBy fault [] x) (sym e) tt

-- what each right line keeps
pub by_lines : (fault : FaultBehind) (Q : List Line → Type 0) → ((before : List Line) (l : Line) → Q before → fault before l.fields ≡ None → Q (before ++ l ∷ [])) → (before ls : List Line) → Q before → IsRightBy fault before ls → Q (before ++ ls)
by_lines fault Q step before [] q h = subst Q (sym (append-nil before)) q
by_lines fault Q step before (l ∷ ls) q h = subst Q (append_assoc before (l ∷ []) ls) (by_lines fault Q step (before ++ l ∷ []) ls (step before l q h.0) h.1)

-- what each line has by itself
pub each_line : (fault : FaultBehind) (P : List Word → Type 0) → ((before : List Line) (fs : List Word) → fault before fs ≡ None → P fs) → (before ls : List Line) → IsRightBy fault before ls → AllByRecursion (λ l. P l.fields) ls
each_line fault P one before [] h = tt
each_line fault P one before (l ∷ ls) h = (one before l.fields h.0, each_line fault P one (before ++ l ∷ []) ls h.1)

-- ---- the slices of the sections

pub record Slices : Type 0 where
  pub rows : List Line
  pub columns : List Line
  pub rights : List Line
  pub ranges : List Line
  pub bounds : List Line
  pub pairs : List Line
  pub groups : List Line

abbrev pub slices_of : List Line → Slices
slices_of ls = record {
  rows = slice Rows ls;
  columns = slice Columns ls;
  rights = slice Rhs ls;
  ranges = slice Ranges ls;
  bounds = slice Bounds ls;
  pairs = slice Pairs ls;
  groups = slice Groups ls;
}

abbrev pub next_slices : Open → LineKind → Line → Slices → Slices
next_slices s kind l k = record {
  rows = grown (is_entry kind && is_open Rows s) l k.rows;
  columns = grown (is_entry kind && is_open Columns s) l k.columns;
  rights = grown (is_entry kind && is_open Rhs s) l k.rights;
  ranges = grown (is_entry kind && is_open Ranges s) l k.ranges;
  bounds = grown (is_entry kind && is_open Bounds s) l k.bounds;
  pairs = grown (is_entry kind && is_open Pairs s) l k.pairs;
  groups = grown (is_entry kind && is_open Groups s) l k.groups;
}

pub slices_grown : (ls : List Line) (l : Line) → slices_of (ls ++ l ∷ []) ≡ next_slices (open_behind ls) l.kind l (slices_of ls)
slices_grown ls l = λ i. record {
  rows = slice_grown Rows ls l i;
  columns = slice_grown Columns ls l i;
  rights = slice_grown Rhs ls l i;
  ranges = slice_grown Ranges ls l i;
  bounds = slice_grown Bounds ls l i;
  pairs = slice_grown Pairs ls l i;
  groups = slice_grown Groups ls l i;
}

abbrev pub rows_fault : FaultBehind
rows_fault before fs = row_fault (rows_of before) fs

abbrev pub columns_fault : List Line → FaultBehind
columns_fault rows before fs = column_fault (rows_of rows) (column_names before) (rows_in (field 0 fs) (entries_in before)) (length (entries_in before)) fs

abbrev pub rights_fault : List Line → FaultBehind
rights_fault rows before fs = row_values_fault (rows_of rows) (first_set row_values_set before) (row_values_in before) fs

abbrev pub bounds_fault : List Line → FaultBehind
bounds_fault columns before fs = bound_fault (column_names columns) (first_set bound_set before) fs

abbrev pub pairs_fault : List Line → List Line → List Line → FaultBehind
pairs_fault rows columns bounds before fs = pair_fault (rows_of rows) (column_names columns) (column_bounds (settings_in bounds)) (pair_names before) fs

abbrev pub groups_fault : List Line → List Line → List Line → List Line → FaultBehind
groups_fault rows columns bounds pairs before fs =
    group_fault (rows_of rows) (column_names columns) (column_bounds (settings_in bounds)) (group_names before) (length (items_of (field 0 fs) before))
    (length (pair_names pairs) + length (group_pairs (deck_groups (rows_of rows) (column_names columns) before))) fs

-- a section that is still to come has no lines
pub record IsOrdered (s : Open) (k : Slices) : Type 0 where
  pub rows : open_rank s < 3 → k.rows ≡ []
  pub columns : open_rank s < 4 → k.columns ≡ []
  pub rights : open_rank s < 5 → k.rights ≡ []
  pub ranges : open_rank s < 5 → k.ranges ≡ []
  pub bounds : open_rank s < 5 → k.bounds ≡ []
  pub pairs : open_rank s < 6 → k.pairs ≡ []
  pub groups : open_rank s < 7 → k.groups ≡ []

pub record IsRight (s : Open) (k : Slices) : Type 0 where
  pub order : IsOrdered s k
  pub begun : 4 ≤ open_rank s → has_objective (rows_of k.rows) ≡ true
  pub rows : IsRightBy rows_fault [] k.rows
  pub columns : IsRightBy (columns_fault k.rows) [] k.columns
  pub rights : IsRightBy (rights_fault k.rows) [] k.rights
  pub ranges : IsRightBy (rights_fault k.rows) [] k.ranges
  pub bounds : IsRightBy (bounds_fault k.columns) [] k.bounds
  pub pairs : IsRightBy (pairs_fault k.rows k.columns k.bounds) [] k.pairs
  pub groups : IsRightBy (groups_fault k.rows k.columns k.bounds k.pairs) [] k.groups

-- ---- a head

rises : (from : ℕ) (begun : Bool) (t : Section) → may_follow from begun t ≡ true → from ≤ rank t
rises from begun Name e = omega (arith, leb-true from 0 e)
rises from begun ObjSense e = omega (arith, leb-true from 1 e)
rises from begun Rows e = omega (arith, leb-true from 2 e)
rises from begun Columns e = omega (arith, eqb-true from 3 e)
rises from begun Rhs e = leb-true from 5 (and_parts _ _ (and_parts _ _ e).0).1
rises from begun Ranges e = leb-true from 5 (and_parts _ _ (and_parts _ _ e).0).1
rises from begun Bounds e = leb-true from 5 (and_parts _ _ (and_parts _ _ e).0).1
rises from begun Pairs e = let last : from ≤ 5 = leb-true from 5 (and_parts (leb 4 from) (leb from 5) e).1 in omega (arith, last)
rises from begun Groups e = let last : from ≤ 6 = leb-true from 6 (and_parts (leb 4 from) (leb from 6) e).1 in omega (arith, last)
rises from begun Endata e = let last : from ≤ 7 = leb-true from 7 (and_parts (leb 4 from) (leb from 7) e).1 in omega (arith, last)

rows_open : (s : Open) → open_rank s ≡ 3 → is_open Rows s ≡ true
rows_open None e = absurd (omega (arith, e))
rows_open (Some Name) e = absurd (omega (arith, e))
rows_open (Some ObjSense) e = absurd (omega (arith, e))
rows_open (Some Rows) e = refl
rows_open (Some Columns) e = absurd (omega (arith, e))
rows_open (Some Rhs) e = absurd (omega (arith, e))
rows_open (Some Ranges) e = absurd (omega (arith, e))
rows_open (Some Bounds) e = absurd (omega (arith, e))
rows_open (Some Pairs) e = absurd (omega (arith, e))
rows_open (Some Groups) e = absurd (omega (arith, e))
rows_open (Some Endata) e = absurd (omega (arith, e))

ended_rows : (here some : Bool) → here ≡ true → (here && not some) ≡ false → some ≡ true
ended_rows true some o e = not-false some e
ended_rows false some o e = absurd (true≢false (sym o))

begun_next : (s : Open) (t : Section) (begun some : Bool) → (4 ≤ open_rank s → some ≡ true) → (is_open Rows s && not some) ≡ false → may_follow (open_rank s) begun t ≡ true → 4 ≤ rank t → some ≡ true
begun_next s Name begun some h e f up = absurd (omega (arith, up))
begun_next s ObjSense begun some h e f up = absurd (omega (arith, up))
begun_next s Rows begun some h e f up = absurd (omega (arith, up))
begun_next s Columns begun some h e f up = ended_rows (is_open Rows s) some (rows_open s (eqb-true _ _ f)) e
begun_next s Rhs begun some h e f up = h (leb-true _ _ (and_parts _ _ (and_parts _ _ f).0).0)
begun_next s Ranges begun some h e f up = h (leb-true _ _ (and_parts _ _ (and_parts _ _ f).0).0)
begun_next s Bounds begun some h e f up = h (leb-true _ _ (and_parts _ _ (and_parts _ _ f).0).0)
begun_next s Pairs begun some h e f up = h (leb-true _ _ (and_parts _ _ f).0)
begun_next s Groups begun some h e f up = h (leb-true _ _ (and_parts _ _ f).0)
begun_next s Endata begun some h e f up = h (leb-true _ _ (and_parts _ _ f).0)

record IsNext (before : List Line) (t : Section) : Type 0 where
  pub begun : (is_open Rows (open_behind before) && not (has_objective (rows_of (slice Rows before)))) ≡ false
  pub order : may_follow (open_rank (open_behind before)) (is_begun t before) t ≡ true

next_of : (before : List Line) (number : ℕ) (t : Section) (fs : List Word) → kind_fault before number (Head t) fs ≡ None → IsNext before t
next_of before number t fs e =
    let head = named_at number (order_fault before t or head_words_fault t fs) in
    let end = first_none (ended_fault before number) head e in
    let right = map_none (found_at number) (order_fault before t or head_words_fault t fs) (second_none (ended_fault before number) head e) in
    record {
      begun = if_none _ NoObjective (map_none (found_at number) _ (first_none _ _ end));
      order = unless_none _ SectionOrder (first_none (order_fault before t) (head_words_fault t fs) right);
    }

ordered_next : (s : Open) (t : Section) (k : Slices) → open_rank s ≤ rank t → IsOrdered s k → IsOrdered (Some t) k
ordered_next s t k up h = record {
  rows = λ l. h.rows (omega (arith, up, l));
  columns = λ l. h.columns (omega (arith, up, l));
  rights = λ l. h.rights (omega (arith, up, l));
  ranges = λ l. h.ranges (omega (arith, up, l));
  bounds = λ l. h.bounds (omega (arith, up, l));
  pairs = λ l. h.pairs (omega (arith, up, l));
  groups = λ l. h.groups (omega (arith, up, l));
}

head_right : (before : List Line) (t : Section) → IsRight (open_behind before) (slices_of before) → IsNext before t → IsRight (Some t) (slices_of before)
head_right before t h n = record {
  order = ordered_next (open_behind before) t (slices_of before) (rises (open_rank (open_behind before)) (is_begun t before) t n.order) h.order;
  begun = begun_next (open_behind before) t (is_begun t before) (has_objective (rows_of (slice Rows before))) h.begun n.begun n.order;
  rows = h.rows;
  columns = h.columns;
  rights = h.rights;
  ranges = h.ranges;
  bounds = h.bounds;
  pairs = h.pairs;
  groups = h.groups;
}

-- ---- a data line

not_below : {X : Type 0} (n : ℕ) → n < n → X
not_below n l = absurd (omega (arith, l))

entry_right : (s : Open) (before : List Line) (l : Line) → IsRight s (slices_of before) → data_fault s before l.fields ≡ None → IsRight s (next_slices s Entry l (slices_of before))
entry_right None before l h e = absurd cc
entry_right (Some Name) before l h e = absurd cc
entry_right (Some ObjSense) before l h e = h
entry_right (Some Rows) before l h e =
    let o = h.order in
    record {
      order = record { rows = λ q. not_below 3 q; columns = o.columns; rights = o.rights; ranges = o.ranges; bounds = o.bounds; pairs = o.pairs; groups = o.groups };
      begun = λ up. absurd (omega (arith, up));
      rows = right_push rows_fault [] (slice Rows before) l h.rows e;
      columns = right_nil _ (slice Columns before) (o.columns (omega arith));
      rights = right_nil _ (slice Rhs before) (o.rights (omega arith));
      ranges = right_nil _ (slice Ranges before) (o.ranges (omega arith));
      bounds = h.bounds;
      pairs = right_nil _ (slice Pairs before) (o.pairs (omega arith));
      groups = right_nil _ (slice Groups before) (o.groups (omega arith));
    }
entry_right (Some Columns) before l h e =
    let o = h.order in
    record {
      order = record { rows = o.rows; columns = λ q. not_below 4 q; rights = o.rights; ranges = o.ranges; bounds = o.bounds; pairs = o.pairs; groups = o.groups };
      begun = h.begun;
      rows = h.rows;
      columns = right_push (columns_fault (slice Rows before)) [] (slice Columns before) l h.columns e;
      rights = h.rights;
      ranges = h.ranges;
      bounds = right_nil _ (slice Bounds before) (o.bounds (omega arith));
      pairs = right_nil _ (slice Pairs before) (o.pairs (omega arith));
      groups = right_nil _ (slice Groups before) (o.groups (omega arith));
    }
entry_right (Some Rhs) before l h e =
    let o = h.order in
    record {
      order = record { rows = o.rows; columns = o.columns; rights = λ q. not_below 5 q; ranges = o.ranges; bounds = o.bounds; pairs = o.pairs; groups = o.groups };
      begun = h.begun;
      rows = h.rows;
      columns = h.columns;
      rights = right_push (rights_fault (slice Rows before)) [] (slice Rhs before) l h.rights e;
      ranges = h.ranges;
      bounds = h.bounds;
      pairs = h.pairs;
      groups = h.groups;
    }
entry_right (Some Ranges) before l h e =
    let o = h.order in
    record {
      order = record { rows = o.rows; columns = o.columns; rights = o.rights; ranges = λ q. not_below 5 q; bounds = o.bounds; pairs = o.pairs; groups = o.groups };
      begun = h.begun;
      rows = h.rows;
      columns = h.columns;
      rights = h.rights;
      ranges = right_push (rights_fault (slice Rows before)) [] (slice Ranges before) l h.ranges e;
      bounds = h.bounds;
      pairs = h.pairs;
      groups = h.groups;
    }
entry_right (Some Bounds) before l h e =
    let o = h.order in
    record {
      order = record { rows = o.rows; columns = o.columns; rights = o.rights; ranges = o.ranges; bounds = λ q. not_below 5 q; pairs = o.pairs; groups = o.groups };
      begun = h.begun;
      rows = h.rows;
      columns = h.columns;
      rights = h.rights;
      ranges = h.ranges;
      bounds = right_push (bounds_fault (slice Columns before)) [] (slice Bounds before) l h.bounds e;
      pairs = right_nil _ (slice Pairs before) (o.pairs (omega arith));
      groups = right_nil _ (slice Groups before) (o.groups (omega arith));
    }
entry_right (Some Pairs) before l h e =
    let o = h.order in
    record {
      order = record { rows = o.rows; columns = o.columns; rights = o.rights; ranges = o.ranges; bounds = o.bounds; pairs = λ q. not_below 6 q; groups = o.groups };
      begun = h.begun;
      rows = h.rows;
      columns = h.columns;
      rights = h.rights;
      ranges = h.ranges;
      bounds = h.bounds;
      pairs = right_push (pairs_fault (slice Rows before) (slice Columns before) (slice Bounds before)) [] (slice Pairs before) l h.pairs e;
      groups = right_nil _ (slice Groups before) (o.groups (omega arith));
    }
entry_right (Some Groups) before l h e =
    let o = h.order in
    record {
      order = record { rows = o.rows; columns = o.columns; rights = o.rights; ranges = o.ranges; bounds = o.bounds; pairs = o.pairs; groups = λ q. not_below 7 q };
      begun = h.begun;
      rows = h.rows;
      columns = h.columns;
      rights = h.rights;
      ranges = h.ranges;
      bounds = h.bounds;
      pairs = h.pairs;
      groups = right_push (groups_fault (slice Rows before) (slice Columns before) (slice Bounds before) (slice Pairs before)) [] (slice Groups before) l h.groups e;
    }
entry_right (Some Endata) before l h e = absurd cc

-- ---- lines

kind_right : (before : List Line) (l : Line) (number : ℕ) (kind : LineKind) → IsRight (open_behind before) (slices_of before) → kind_fault before number kind l.fields ≡ None
    → IsRight (behind (open_behind before) kind) (next_slices (open_behind before) kind l (slices_of before))
kind_right before l number Blank h e = h
kind_right before l number Comment h e = h
kind_right before l number (Head t) h e = head_right before t h (next_of before number t l.fields e)
kind_right before l number LeftOut h e = h
kind_right before l number Unknown h e = absurd cc
kind_right before l number Entry h e = entry_right (open_behind before) before l h (map_none (found_at number) _ e)

abbrev pub LinesRight : List Line → Type 0
LinesRight ls = IsRight (open_behind ls) (slices_of ls)

line_right : (before : List Line) (l : Line) → LinesRight before → fault_of before l ≡ None → LinesRight (before ++ l ∷ [])
line_right before l h e =
    subst (λ (s : Open). IsRight s (slices_of (before ++ l ∷ []))) (sym (open_push None before l))
    (subst (λ (k : Slices). IsRight (behind (open_behind before) l.kind) k) (sym (slices_grown before l)) (kind_right before l l.number l.kind h e))

clean_right : (before front : List Line) → LinesRight before → IsClean before front → LinesRight (before ++ front)
clean_right before [] h c = subst LinesRight (sym (append-nil before)) h
clean_right before (l ∷ front) h c = subst LinesRight (append_assoc before (l ∷ []) front) (clean_right (before ++ l ∷ []) front (line_right before l h c.0) c.2)

none_right : LinesRight []
none_right = record {
  order = record { rows = λ l. refl; columns = λ l. refl; rights = λ l. refl; ranges = λ l. refl; bounds = λ l. refl; pairs = λ l. refl; groups = λ l. refl };
  begun = λ up. absurd (omega (arith, up));
  rows = tt;
  columns = tt;
  rights = tt;
  ranges = tt;
  bounds = tt;
  pairs = tt;
  groups = tt;
}

pub lines_right : (front : List Line) → IsClean [] front → LinesRight front
lines_right front c = clean_right [] front none_right c

-- ---- ENDATA

endata_next : (before : List Line) (number : ℕ) (kind : LineKind) (fs : List Word) → kind_fault before number kind fs ≡ None → ends_deck kind ≡ true → (t : Section) × IsNext before t × (4 ≤ rank t)
endata_next before number Blank fs e h = absurd cc
endata_next before number Comment fs e h = absurd cc
endata_next before number (Head t) fs e h = (t, next_of before number t fs e, late t h)
  where
    late : (t : Section) → ends_deck (Head t) ≡ true → 4 ≤ rank t
    late Name q = absurd cc
    late ObjSense q = absurd cc
    late Rows q = absurd cc
    late Columns q = absurd cc
    late Rhs q = absurd cc
    late Ranges q = absurd cc
    late Bounds q = absurd cc
    late Pairs q = absurd cc
    late Groups q = absurd cc
    late Endata q = omega arith
endata_next before number LeftOut fs e h = absurd cc
endata_next before number Unknown fs e h = absurd cc
endata_next before number Entry fs e h = absurd cc

-- lines before ENDATA have an objective
pub some_objective : (before : List Line) (last : Line) → LinesRight before → fault_of before last ≡ None → ends_deck last.kind ≡ true → has_objective (rows_of (slice Rows before)) ≡ true
some_objective before last h e ends =
    let n = endata_next before last.number last.kind last.fields e ends in
    begun_next (open_behind before) n.0 (is_begun n.0 before) (has_objective (rows_of (slice Rows before))) h.begun n.1.begun n.1.order n.2
