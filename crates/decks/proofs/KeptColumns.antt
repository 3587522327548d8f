-- The columns of a deck and their entries.
use Rattle.std.proofs.Common.{ℕ, ◌+◌, ◌≤◌, ◌<◌, ◌≡◌, Bool, true, false, not, ◌&&◌, cond, List, [], ◌∷◌, ◌++◌, length, Option, Some, None, refl, sym, ap, subst, ◌∙◌, leb, ltb, append_assoc, arith}
use Rattle.std.proofs.lemmas.Bool.{leb-false, ltb-false, or_parts}
use Rattle.std.proofs.lemmas.List.{append-nil, length-append}
use Rattle.std.proofs.lemmas.List.Concat.{flat_map-append}
use Rattle.std.proofs.lemmas.Option.{slice_get_within}
use Rattle.std.specs.Prelude.{is_none}
use Rattle.std.specs.List.{AllByRecursion}
use Rattle.lp_nums.specs.Fractions.{Fraction}
use Rattle.mps_lex.specs.Kinds.{Name}
use Rattle.mps_lex.specs.Lines.{Line}
use Rattle.decks.specs.declared.deck.Entry.{Entry}
use Rattle.decks.specs.declared.fault.DeckWhy.TheVariants.{UnknownName, EntryTwice, ColumnSplit, TooMany}
use Rattle.decks.specs.Decks.{IsDeckNumber}
use Rattle.decks.specs.Names.{has, place, add_name}
use Rattle.decks.specs.Numbers.{value_of, text_fault}
use Rattle.decks.specs.Spelling.{field, RowLine, kept, row_named, number_of_row, row_value, NamedEntry, in_column, entries_on, entries_in, rows_of, rows_in, column_names, entry_at, entry_of, deck_entries}
use Rattle.decks.specs.Faults.{◌or◌, fault_if, marker_fault, split_fault, entry_fault, full_fault, column_words_fault}
use Rattle.decks.proofs.KeptParts.{first_none, second_none, if_none, all_append, all_flat}
use Rattle.decks.proofs.KeptNames.{place_has, has_added, columns_push}
use Rattle.decks.proofs.KeptNumbers.{number_kept}
use Rattle.decks.proofs.KeptRows.{RowsKept, is_at}
use Rattle.decks.proofs.KeptRowValues.{entry_text}
use Rattle.decks.proofs.KeptEntries.{IsNamed, EntriesKept, column_added, last_added, entry_added, rows_push}
use Rattle.decks.proofs.KeptSlices.{IsRightBy, columns_fault, by_lines}

-- ---- what right words say

record IsEntryRight (standing : List Name) (r v : Name) : Type 0 where
  pub fresh : has standing r ≡ false
  pub value : IsDeckNumber (value_of v)

entry_right : (rows : List RowLine) (standing : List Name) (r v : Name) → entry_fault rows (has standing r) r v ≡ None → IsEntryRight standing r v
entry_right rows standing r v e =
    let unknown = fault_if (is_none (row_named rows r)) UnknownName in
    let twice = fault_if (has standing r) EntryTwice in
    record {
      fresh = if_none (has standing r) EntryTwice (first_none twice (text_fault v) (second_none unknown (twice or text_fault v) e));
      value = number_kept v (entry_text rows (has standing r) r v e);
    }

pub not_split : (columns : List Name) (c : Name) → split_fault columns c ≡ None → length columns ≤ place columns c + 1
not_split columns c e = ltb-false (place columns c + 1) (length columns) (if_none (ltb (place columns c + 1) (length columns)) ColumnSplit e)

few_columns : (columns : List Name) (c : Name) (b : Bool) → length columns ≤ 1000 → (not b && leb 1000 (length columns)) ≡ false → length (cond b columns (columns ++ c ∷ [])) ≤ 1000
few_columns columns c true few e = few
few_columns columns c false few e = omega (arith, leb-false 1000 (length columns) e, length-append columns (c ∷ []))

not_full : (columns : List Name) (entries : ℕ) (c : Name) (more : ℕ) → length columns ≤ 1000 → full_fault columns entries c more ≡ None → (length (add_name columns c) ≤ 1000) × (entries + more ≤ 200000)
not_full columns entries c more few e =
    let p = or_parts (not (has columns c) && leb 1000 (length columns)) (ltb 200000 (entries + more)) (if_none _ TooMany e) in
    (few_columns columns c (has columns c) few p.0, ltb-false 200000 (entries + more) p.1)

-- ---- a line

pub record ListsKept (rows : List RowLine) (columns : List Name) (es : List NamedEntry) : Type 0 where
  pub entries : EntriesKept rows columns es
  pub few_columns : length columns ≤ 1000
  pub few_entries : length es ≤ 200000

named_by : (columns standing : List Name) (c r v : Name) → IsEntryRight standing r v → IsNamed (add_name columns c) (in_column c (row_value r v))
named_by columns standing c r v h = record { column = has_added columns c; value = h.value }

one_entry : (rows : List RowLine) (columns : List Name) (es : List NamedEntry) (c r v : Name) → RowsKept rows → ListsKept rows columns es → length columns ≤ place columns c + 1 → IsEntryRight (rows_in c es) r v
    → EntriesKept rows (add_name columns c) (es ++ in_column c (row_value r v) ∷ [])
one_entry rows columns es c r v h k whole e =
    entry_added rows (add_name columns c) es (in_column c (row_value r v)) h (column_added rows columns c es k.entries) (named_by columns (rows_in c es) c r v e) (last_added columns c es whole k.entries.named) e.fresh

one_kept : (rows : List RowLine) (columns : List Name) (es : List NamedEntry) (c r v : Name) → RowsKept rows → ListsKept rows columns es → column_words_fault rows columns (rows_in c es) (length es) (c ∷ r ∷ v ∷ []) ≡ None
    → ListsKept rows (add_name columns c) (es ++ in_column c (row_value r v) ∷ [])
one_kept rows columns es c r v h k e =
    let split = split_fault columns c in
    let one = entry_fault rows (has (rows_in c es) r) r v in
    let full = full_fault columns (length es) c 1 in
    let after = second_none split (one or full) e in
    let room = not_full columns (length es) c 1 k.few_columns (second_none one full after) in
    record {
      entries = one_entry rows columns es c r v h k (not_split columns c (first_none split (one or full) e)) (entry_right rows (rows_in c es) r v (first_none one full after));
      few_columns = room.0;
      few_entries = omega (arith, room.1, length-append es (in_column c (row_value r v) ∷ []));
    }

two_entries : (rows : List RowLine) (columns : List Name) (es : List NamedEntry) (c r v s w : Name) → RowsKept rows → ListsKept rows columns es → length columns ≤ place columns c + 1 → IsEntryRight (rows_in c es) r v
    → IsEntryRight (rows_in c es ++ r ∷ []) s w → EntriesKept rows (add_name columns c) ((es ++ in_column c (row_value r v) ∷ []) ++ in_column c (row_value s w) ∷ [])
two_entries rows columns es c r v s w h k whole e f =
    let first = in_column c (row_value r v) in
    let new = add_name columns c in
    let last = all_append (λ x. place new x.column ≤ place new c) es (first ∷ []) (last_added columns c es whole k.entries.named) (omega arith, tt) in
    entry_added rows new (es ++ first ∷ []) (in_column c (row_value s w)) h (one_entry rows columns es c r v h k whole e) (named_by columns (rows_in c es ++ r ∷ []) c s w f) last
    (ap (λ (x : List Name). has x s) (rows_push c es first refl) ∙ f.fresh)

two_kept : (rows : List RowLine) (columns : List Name) (es : List NamedEntry) (c r v s w : Name) → RowsKept rows → ListsKept rows columns es → column_words_fault rows columns (rows_in c es) (length es) (c ∷ r ∷ v ∷ s ∷ w ∷ []) ≡ None
    → ListsKept rows (add_name columns c) (es ++ in_column c (row_value r v) ∷ in_column c (row_value s w) ∷ [])
two_kept rows columns es c r v s w h k e =
    let split = split_fault columns c in
    let one = entry_fault rows (has (rows_in c es) r) r v in
    let two = entry_fault rows (has (rows_in c es ++ r ∷ []) s) s w in
    let full = full_fault columns (length es) c 2 in
    let after = second_none split ((one or two) or full) e in
    let both = first_none (one or two) full after in
    let room = not_full columns (length es) c 2 k.few_columns (second_none (one or two) full after) in
    let entries = two_entries rows columns es c r v s w h k (not_split columns c (first_none split ((one or two) or full) e)) (entry_right rows (rows_in c es) r v (first_none one two both))
    (entry_right rows (rows_in c es ++ r ∷ []) s w (second_none one two both)) in
    record {
      entries = subst (EntriesKept rows (add_name columns c)) (append_assoc es (in_column c (row_value r v) ∷ []) (in_column c (row_value s w) ∷ [])) entries;
      few_columns = room.0;
      few_entries = omega (arith, room.1, length-append es (in_column c (row_value r v) ∷ in_column c (row_value s w) ∷ []));
    }

words_kept : (rows : List RowLine) (columns : List Name) (es : List NamedEntry) (fs : List Name) → RowsKept rows → ListsKept rows columns es → column_words_fault rows columns (rows_in (field 0 fs) es) (length es) fs ≡ None
    → ListsKept rows (add_name columns (field 0 fs)) (es ++ entries_on fs)
words_kept rows columns es [] h k e = absurd cc
words_kept rows columns es (c ∷ []) h k e = absurd cc
words_kept rows columns es (c ∷ r ∷ []) h k e = absurd cc
words_kept rows columns es (c ∷ r ∷ v ∷ []) h k e = one_kept rows columns es c r v h k e
words_kept rows columns es (c ∷ r ∷ v ∷ s ∷ []) h k e = absurd cc
words_kept rows columns es (c ∷ r ∷ v ∷ s ∷ w ∷ []) h k e = two_kept rows columns es c r v s w h k e
words_kept rows columns es (c ∷ r ∷ v ∷ s ∷ w ∷ x ∷ fs) h k e = absurd cc

-- ---- the lines

entries_more : (cs : List Line) (l : Line) → entries_in (cs ++ l ∷ []) ≡ entries_in cs ++ entries_on l.fields
entries_more cs l = flat_map-append (λ (x : Line). entries_on x.fields) cs (l ∷ []) ∙ ap (λ (x : List NamedEntry). entries_in cs ++ x) (append-nil (entries_on l.fields))

pub columns_kept : (rows ls : List Line) → RowsKept (rows_of rows) → IsRightBy (columns_fault rows) [] ls → ListsKept (rows_of rows) (column_names ls) (entries_in ls)
columns_kept rows ls h right = by_lines (columns_fault rows) (λ cs. ListsKept rs (column_names cs) (entries_in cs)) one [] ls none right
  where
    rs : List RowLine
    rs = rows_of rows

    none : ListsKept rs [] []
    none = record { entries = record { named = tt; ascending = λ row. refl }; few_columns = omega arith; few_entries = omega arith }

    one : (before : List Line) (l : Line) → ListsKept rs (column_names before) (entries_in before) → columns_fault rows before l.fields ≡ None → ListsKept rs (column_names (before ++ l ∷ [])) (entries_in (before ++ l ∷ []))
    one before l k e =
        let words = second_none (marker_fault l.fields) (column_words_fault rs (column_names before) (rows_in (field 0 l.fields) (entries_in before)) (length (entries_in before)) l.fields) e in
        subst (λ (x : List Name). ListsKept rs x (entries_in (before ++ l ∷ []))) (sym (columns_push before l))
        (subst (λ (x : List NamedEntry). ListsKept rs (add_name (column_names before) (field 0 l.fields)) x) (sym (entries_more before l)) (words_kept rs (column_names before) (entries_in before) l.fields h k words))

-- ---- the entries of the deck

pub record IsEntry (rows columns : ℕ) (e : Entry) : Type 0 where
  pub column : e.column < columns
  pub row : e.row < rows
  pub value : IsDeckNumber e.value

entry_is : (rows : List RowLine) (columns : List Name) (e : NamedEntry) (o : Option ℕ) → RowsKept rows → IsNamed columns e → number_of_row (row_named rows e.row) ≡ o → AllByRecursion (IsEntry (length (kept rows)) (length columns)) (entry_at (place columns e.column) e.value o)
entry_is rows columns e None h n q = tt
entry_is rows columns e (Some k) h n q =
    let at = is_at rows e.row k h q in
    (record { column = place_has columns e.column n.column; row = slice_get_within (kept rows) k at.row at.place; value = n.value }, tt)

pub entries_are : (rows : List RowLine) (columns : List Name) (es : List NamedEntry) → RowsKept rows → EntriesKept rows columns es → AllByRecursion (IsEntry (length (kept rows)) (length columns)) (deck_entries rows columns es)
entries_are rows columns es h k = all_flat (IsNamed columns) (IsEntry (length (kept rows)) (length columns)) (entry_of rows columns) (λ e n. entry_is rows columns e (number_of_row (row_named rows e.row)) h n refl) es k.named

at_most_one : (column : ℕ) (value : Fraction) (o : Option ℕ) → length (entry_at column value o) ≤ 1
at_most_one column value None = omega arith
at_most_one column value (Some k) = omega arith

pub no_more_entries : (rows : List RowLine) (columns : List Name) (es : List NamedEntry) → length (deck_entries rows columns es) ≤ length es
no_more_entries rows columns [] = omega arith
no_more_entries rows columns (e ∷ es) =
    omega (arith, no_more_entries rows columns es, at_most_one (place columns e.column) e.value (number_of_row (row_named rows e.row)), length-append (entry_of rows columns e) (deck_entries rows columns es))
