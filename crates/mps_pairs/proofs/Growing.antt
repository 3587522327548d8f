-- What is known of the other sections when a line is read.
use Rattle.std.proofs.Common.{ℕ, ◌≡◌, ◌+◌, ◌≤◌, Bool, true, false, not, ◌||◌, cond, suc, ltb, List, [], ◌∷◌, ◌++◌, length, map, Option, Some, None, refl, sym, ap, ◌∙◌, append_assoc, arith}
use Rattle.std.proofs.lemmas.Bool.{true≢false, ltb-false}
use Rattle.std.proofs.lemmas.List.{append-nil, map_push, map-append, length-append}
use Rattle.std.proofs.lemmas.List.Concat.{flat_map-append}
use Rattle.std.proofs.lemmas.List.Elements.{filter-append}
use Rattle.std.proofs.lemmas.List.Sums.{fold_push}
use Rattle.std.specs.Prelude.{filter}
use Rattle.std.specs.List.{AllByRecursion}
use Rattle.std.specs.Str.{bytes_eq}
use Rattle.mps_lex.specs.Kinds.{Name}
use Rattle.mps_lex.specs.Lines.{Line}
use Rattle.decks.specs.declared.deck.Entry.{Entry}
use Rattle.decks.specs.declared.fault.DeckWhy.{DeckWhy}
use Rattle.decks.specs.declared.fault.DeckWhy.TheVariants.{ColumnSplit}
use Rattle.decks.specs.Names.{has, place, add_name}
use Rattle.decks.specs.Spelling.{field, RowLine, row_line, add_row, rows_of, row_named, number_of_row, RowValue, in_column, NamedEntry, values_on, entries_on, entries_in, rows_in, column_names, entry_at, entry_of, deck_entries, row_values_set, row_values_on, row_values_in, pair_of}
use Rattle.decks.specs.Faults.{◌or◌, split_fault, entry_fault, two_entries_fault, full_fault, marker_fault, column_words_fault, column_fault}
use Rattle.mps_tables.specs.Known.{KnownColumns, last_name, known_columns, rows_here, with_name, with_entry, with_entries, with_column, known_row_values, with_row_values}
use Rattle.mps_pairs.specs.Known.{known_pairs, with_pair}
use Rattle.decks.proofs.KeptParts.{first_none, second_none, if_none}
use Rattle.decks.proofs.KeptNames.{same_name, own_name, place_more, columns_push}
use Rattle.decks.proofs.KeptEntries.{IsNamed}
use Rattle.mps_pairs.proofs.GrowingBounds.{set_push}

-- ---- ROWS

pub rows_push : (rs : List Line) (l : Line) → rows_of (rs ++ l ∷ []) ≡ rows_of rs ++ row_line (rows_of rs) l.number l.fields ∷ []
rows_push rs l = fold_push add_row [] rs l

-- ---- RHS and RANGES

givens_push : (hs : List Line) (l : Line) → row_values_in (hs ++ l ∷ []) ≡ row_values_in hs ++ row_values_on l.fields
givens_push hs l = flat_map-append (λ (x : Line). row_values_on x.fields) hs (l ∷ []) ∙ ap (λ (x : List RowValue). row_values_in hs ++ x) (append-nil (row_values_on l.fields))

pub set_and_values_push : (hs : List Line) (l : Line) → known_row_values (hs ++ l ∷ []) ≡ with_row_values (known_row_values hs) l.fields
set_and_values_push hs l = λ i. record { set = set_push row_values_set hs l i; values = givens_push hs l i }

-- ---- PAIRS

pub pairs_push : (rows : List RowLine) (columns : List Name) (ps : List Line) (l : Line) → known_pairs rows columns (ps ++ l ∷ []) ≡ with_pair rows columns (known_pairs rows columns ps) l.fields
pairs_push rows columns ps l = λ i. record {
  names = map_push (λ (x : Line). field 0 x.fields) ps l i;
  pairs = map_push (λ (x : Line). pair_of rows columns x.fields) ps l i;
}

-- ---- COLUMNS: the last column

last_push : (ns : List Name) (c : Name) → last_name (ns ++ c ∷ []) ≡ c
last_push [] c = refl
last_push (n ∷ []) c = refl
last_push (n ∷ m ∷ ns) c = last_push (m ∷ ns) c

-- a column that stands is the last one
abbrev pub IsWhole : List Name → Name → Type 0
IsWhole columns c = length columns ≤ place columns c + 1

one_last : (b : Bool) (n c : Name) → bytes_eq c n ≡ b → (b || false) ≡ true → n ≡ c
one_last true n c q h = sym (same_name c n q)
one_last false n c q h = absurd (true≢false (sym h))

more_last : (b any : Bool) (len p : ℕ) → (b || any) ≡ true → suc (suc len) ≤ cond (not b) (1 + p) 0 + 1 → (any ≡ true) × (suc len ≤ p + 1)
more_last true any len p h le = absurd (omega (arith, le))
more_last false any len p h le = (h, omega (arith, le))

last_stands : (ns : List Name) (c : Name) → has ns c ≡ true → IsWhole ns c → last_name ns ≡ c
last_stands [] c h le = absurd (true≢false (sym h))
last_stands (n ∷ []) c h le = one_last (bytes_eq c n) n c refl h
last_stands (n ∷ m ∷ ns) c h le =
    let p = more_last (bytes_eq c n) (has (m ∷ ns) c) (length ns) (place (m ∷ ns) c) h le in
    last_stands (m ∷ ns) c p.0 p.1

last_by : (b : Bool) (ns : List Name) (c : Name) → has ns c ≡ b → IsWhole ns c → last_name (cond b ns (ns ++ c ∷ [])) ≡ c
last_by true ns c q le = last_stands ns c q le
last_by false ns c q le = last_push ns c

-- no entry is in a column that does not stand
not_in : (b : Bool) (columns : List Name) (c d : Name) → bytes_eq c d ≡ b → has columns d ≡ true → has columns c ≡ false → b ≡ false
not_in true columns c d q h e = absurd (true≢false (sym h ∙ ap (has columns) (sym (same_name c d q)) ∙ e))
not_in false columns c d q h e = refl

abbrev row_of : NamedEntry → Name
row_of e = e.row

no_rows : (columns : List Name) (c : Name) (es : List NamedEntry) → AllByRecursion (IsNamed columns) es → has columns c ≡ false → rows_in c es ≡ []
no_rows columns c [] h e = refl
no_rows columns c (x ∷ es) h e =
    let rest = filter (λ (y : NamedEntry). bytes_eq c y.column) es in
    ap (λ (b : Bool). map row_of (cond b (x ∷ rest) rest)) (not_in (bytes_eq c x.column) columns c x.column refl h.0.column e) ∙ no_rows columns c es h.1 e

here_by : (b : Bool) (columns : List Name) (c : Name) (es : List NamedEntry) → has columns c ≡ b → IsWhole columns c → AllByRecursion (IsNamed columns) es → cond b (rows_in (last_name columns) es) [] ≡ rows_in c es
here_by true columns c es q le h = ap (λ (x : Name). rows_in x es) (last_stands columns c q le)
here_by false columns c es q le h = sym (no_rows columns c es h q)

-- the rows in which the column has entries
here_is : (rows : List RowLine) (cs : List Line) (c : Name) → IsWhole (column_names cs) c → AllByRecursion (IsNamed (column_names cs)) (entries_in cs) → rows_here (known_columns rows cs) c ≡ rows_in c (entries_in cs)
here_is rows cs c le h = here_by (has (column_names cs) c) (column_names cs) c (entries_in cs) refl le h

-- ---- COLUMNS: entries

one_more : (n m : ℕ) → (n + 1) + m ≡ n + suc m
one_more n m = omega arith

no_more : (n : ℕ) → n ≡ n + 0
no_more n = omega arith

abbrev with_all : List RowLine → KnownColumns → List NamedEntry → KnownColumns
with_all rows k es = record { names = k.names; here = k.here ++ map row_of es; count = k.count + length es; entries = k.entries ++ deck_entries rows k.names es }

with_entries_is : (rows : List RowLine) (k : KnownColumns) (es : List NamedEntry) → with_entries rows k es ≡ with_all rows k es
with_entries_is rows k [] = λ i. record { names = k.names; here = sym (append-nil k.here) i; count = no_more k.count i; entries = sym (append-nil k.entries) i }
with_entries_is rows k (e ∷ es) = with_entries_is rows (with_entry rows k e) es ∙ (λ i. record {
  names = k.names;
  here = append_assoc k.here (e.row ∷ []) (map row_of es) i;
  count = one_more k.count (length es) i;
  entries = append_assoc k.entries (entry_of rows k.names e) (deck_entries rows k.names es) i;
})

own_rows : (c : Name) (gs : List RowValue) → rows_in c (map (in_column c) gs) ≡ map row_of (map (in_column c) gs)
own_rows c [] = refl
own_rows c (g ∷ gs) =
    let rest = filter (λ (y : NamedEntry). bytes_eq c y.column) (map (in_column c) gs) in
    ap (λ (b : Bool). map row_of (cond b (in_column c g ∷ rest) rest)) (own_name c) ∙ ap (λ (x : List Name). g.0 ∷ x) (own_rows c gs)

rows_append : (c : Name) (es more : List NamedEntry) → rows_in c (es ++ more) ≡ rows_in c es ++ rows_in c more
rows_append c es more =
    let here = λ (x : NamedEntry). bytes_eq c x.column in
    ap (map row_of) (filter-append here es more) ∙ map-append row_of (filter here es) (filter here more)

-- an entry keeps its column's number while names are added
entries_keep : (rows : List RowLine) (columns : List Name) (c : Name) (es : List NamedEntry) → AllByRecursion (IsNamed columns) es → deck_entries rows (add_name columns c) es ≡ deck_entries rows columns es
entries_keep rows columns c [] h = refl
entries_keep rows columns c (e ∷ es) h =
    ap (λ (j : ℕ). entry_at j e.value (number_of_row (row_named rows e.row)) ++ deck_entries rows (add_name columns c) es) (place_more columns c e.column h.0.column)
    ∙ ap (λ (x : List Entry). entry_of rows columns e ++ x) (entries_keep rows columns c es h.1)

entries_push : (cs : List Line) (l : Line) → entries_in (cs ++ l ∷ []) ≡ entries_in cs ++ entries_on l.fields
entries_push cs l = flat_map-append (λ (x : Line). entries_on x.fields) cs (l ∷ []) ∙ ap (λ (x : List NamedEntry). entries_in cs ++ x) (append-nil (entries_on l.fields))

abbrev columns_with : List RowLine → List Name → List NamedEntry → KnownColumns
columns_with rows names es = record { names = names; here = rows_in (last_name names) es; count = length es; entries = deck_entries rows names es }

pub known_columns_push : (rows : List RowLine) (cs : List Line) (l : Line) → IsWhole (column_names cs) (field 0 l.fields) → AllByRecursion (IsNamed (column_names cs)) (entries_in cs)
    → known_columns rows (cs ++ l ∷ []) ≡ with_column rows (known_columns rows cs) l.fields
known_columns_push rows cs l whole named =
    let c = field 0 l.fields in
    let old = column_names cs in
    let new = add_name old c in
    let es = entries_in cs in
    let more = entries_on l.fields in
    let here : rows_in (last_name new) (es ++ more) ≡ rows_here (known_columns rows cs) c ++ map row_of more =
    ap (λ (x : Name). rows_in x (es ++ more)) (last_by (has old c) old c refl whole) ∙ rows_append c es more
    ∙ ap (λ (x : List Name). rows_in c es ++ x) (own_rows c (values_on l.fields)) ∙ ap (λ (x : List Name). x ++ map row_of more) (sym (here_is rows cs c whole named)) in
    let entries : deck_entries rows new (es ++ more) ≡ deck_entries rows old es ++ deck_entries rows new more =
    flat_map-append (entry_of rows new) es more ∙ ap (λ (x : List Entry). x ++ deck_entries rows new more) (entries_keep rows old c es named) in
    (λ i. columns_with rows (columns_push cs l i) (entries_push cs l i))
    ∙ (λ i. record { names = new; here = here i; count = length-append es more i; entries = entries i })
    ∙ sym (with_entries_is rows (with_name (known_columns rows cs) c) more)

-- ---- COLUMNS: faults

not_split : (columns : List Name) (c : Name) → split_fault columns c ≡ None → IsWhole columns c
not_split columns c e = ltb-false (place columns c + 1) (length columns) (if_none (ltb (place columns c + 1) (length columns)) ColumnSplit e)

words_whole : (rows : List RowLine) (columns here : List Name) (n : ℕ) (fs : List Name) → column_words_fault rows columns here n fs ≡ None → IsWhole columns (field 0 fs)
words_whole rows columns here n [] e = absurd cc
words_whole rows columns here n (c ∷ []) e = absurd cc
words_whole rows columns here n (c ∷ r ∷ []) e = absurd cc
words_whole rows columns here n (c ∷ r ∷ v ∷ []) e = not_split columns c (first_none (split_fault columns c) _ e)
words_whole rows columns here n (c ∷ r ∷ v ∷ s ∷ []) e = absurd cc
words_whole rows columns here n (c ∷ r ∷ v ∷ s ∷ w ∷ []) e = not_split columns c (first_none (split_fault columns c) _ e)
words_whole rows columns here n (c ∷ r ∷ v ∷ s ∷ w ∷ x ∷ fs) e = absurd cc

pub line_whole : (rows : List RowLine) (columns here : List Name) (n : ℕ) (fs : List Name) → column_fault rows columns here n fs ≡ None → IsWhole columns (field 0 fs)
line_whole rows columns here n fs e = words_whole rows columns here n fs (second_none (marker_fault fs) (column_words_fault rows columns here n fs) e)

unless_first : (a b c : Option DeckWhy) → (a ≡ None → b ≡ c) → (a or b) ≡ (a or c)
unless_first None b c f = f refl
unless_first (Some w) b c f = refl

words_same : (rows : List RowLine) (columns g h : List Name) (n : ℕ) (fs : List Name) → (split_fault columns (field 0 fs) ≡ None → g ≡ h) → column_words_fault rows columns g n fs ≡ column_words_fault rows columns h n fs
words_same rows columns g h n [] f = refl
words_same rows columns g h n (c ∷ []) f = refl
words_same rows columns g h n (c ∷ r ∷ []) f = refl
words_same rows columns g h n (c ∷ r ∷ v ∷ []) f =
    unless_first (split_fault columns c) (entry_fault rows (has g r) r v or full_fault columns n c 1) (entry_fault rows (has h r) r v or full_fault columns n c 1)
    (λ e. ap (λ (x : List Name). entry_fault rows (has x r) r v or full_fault columns n c 1) (f e))
words_same rows columns g h n (c ∷ r ∷ v ∷ s ∷ []) f = refl
words_same rows columns g h n (c ∷ r ∷ v ∷ s ∷ w ∷ []) f =
    unless_first (split_fault columns c) (two_entries_fault rows g r v s w or full_fault columns n c 2) (two_entries_fault rows h r v s w or full_fault columns n c 2)
    (λ e. ap (λ (x : List Name). two_entries_fault rows x r v s w or full_fault columns n c 2) (f e))
words_same rows columns g h n (c ∷ r ∷ v ∷ s ∷ w ∷ x ∷ fs) f = refl

pub column_fault_same : (rows : List RowLine) (cs : List Line) (fs : List Name) → AllByRecursion (IsNamed (column_names cs)) (entries_in cs)
    → column_fault rows (column_names cs) (rows_here (known_columns rows cs) (field 0 fs)) (length (entries_in cs)) fs ≡ column_fault rows (column_names cs) (rows_in (field 0 fs) (entries_in cs)) (length (entries_in cs)) fs
column_fault_same rows cs fs named =
    let c = field 0 fs in
    let columns = column_names cs in
    ap (λ (x : Option DeckWhy). marker_fault fs or x)
    (words_same rows columns (rows_here (known_columns rows cs) c) (rows_in c (entries_in cs)) (length (entries_in cs)) fs (λ e. here_is rows cs c (not_split columns c e) named))
