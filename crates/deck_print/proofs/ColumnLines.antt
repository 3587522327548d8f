-- The lines of COLUMNS: they are right, and name the columns and the entries in their order.
use Rattle.std.proofs.Common.{ℕ, zero, suc, ◌+◌, ◌<◌, ◌≤◌, ◌≡◌, Bool, true, false, not, ◌&&◌, ◌||◌, cond, List, [], ◌∷◌, ◌++◌, length, map, take, Some, None, refl, sym, ap, ◌∙◌, append_assoc, inl, inr, arith}
use Rattle.std.specs.Prelude.{slice_get, codes, filter, is_none, nat_le, nat_lt}
use Rattle.std.specs.Fmt.{signed_decimal}
use Rattle.std.specs.List.{AllByRecursion}
use Rattle.std.specs.Str.{bytes_eq}
use Rattle.std.proofs.lemmas.Bool.{and_left, and_right, cases_eq, le-ltb, lt-leb, not_from_true, or_from}
use Rattle.std.proofs.lemmas.Grind.{flat_map-append}
use Rattle.std.proofs.lemmas.List.{append-nil, length-append, length-map, length-take-le, map-append, take_all}
use Rattle.std.proofs.lemmas.Option.{slice_get-get_or}
use Rattle.lp_base.specs.declared.limits.TheConstants.{MOST_COLUMNS, MOST_ENTRIES}
use Rattle.mps_lex.specs.Kinds.{Name}
use Rattle.mps_lex.specs.Lines.{Line}
use Rattle.decks.specs.declared.deck.Entry.{Entry}
use Rattle.decks.specs.declared.fault.DeckWhy.TheVariants.{ColumnSplit, EntryTwice, IntegerMarker, TooMany, UnknownName}
use Rattle.decks.specs.Names.{add_name, has, place}
use Rattle.decks.specs.Numbers.{text_fault}
use Rattle.decks.specs.Spelling.{NamedEntry, RowLine, column_names, deck_entries, entries_in, entries_on, entry_at, entry_of, number_of_row, row_named, rows_in, rows_of as lined_rows}
use Rattle.decks.specs.Faults.{◌or◌, column_fault, entry_fault, fault_if, full_fault, is_split}
use Rattle.decks.proofs.KeptNames.{columns_push}
use Rattle.decks.proofs.KeptParts.{all_append, all_at, all_weaker}
use Rattle.decks.proofs.KeptSlices.{IsRightBy, columns_fault}
use Rattle.deck_print.specs.Printed.{AreDistinct, FollowColumns, IsNoMarker, IsWhole, NamedRow, entry_words, name_at, row_name}
use Rattle.deck_print.proofs.Apart.{AreApart, IsApartFrom}
use Rattle.deck_print.proofs.Lined.{all_said, said}
use Rattle.deck_print.proofs.Names.{has_taken, not_taken, one_place, place_at, place_taken, take_next}
use Rattle.deck_print.proofs.Numbers.{fine_text, text_value}
use Rattle.deck_print.proofs.RowLines.{found_row, numbered, numbered_row}

-- ---- rows and columns by number

pub name_there : (ns : List Name) (j : ℕ) → j < length ns → slice_get ns j ≡ Some (name_at ns j)
name_there ns j l = slice_get-get_or ns j [] l

pub record RowThere (rows : List NamedRow) (i : ℕ) : Type 0 where
  pub row : NamedRow
  pub there : slice_get rows i ≡ Some row
  pub name : name_at (map row_name rows) i ≡ row.0

pub row_there : (rows : List NamedRow) (i : ℕ) → i < length rows → RowThere rows i
row_there [] i l = absurd (omega (arith, l))
row_there (x ∷ rows) zero l = record { row = x; there = refl; name = refl }
row_there (x ∷ rows) (suc i) l = let r = row_there rows i (omega (arith, l)) in record { row = r.row; there = r.there; name = r.name }

-- a row is found by its name
pub row_found : (rows : List NamedRow) (i : ℕ) (r : RowThere rows i) → AreDistinct (map row_name rows) → row_named (numbered 0 rows) (name_at (map row_name rows) i) ≡ Some (numbered_row i r.row)
row_found rows i r d =
    ap (row_named (numbered 0 rows)) r.name ∙ found_row rows 0 i r.row d r.there ∙ ap (λ k. Some (numbered_row k r.row)) (let z : 0 + i ≡ i = omega arith in z)

pub record IsGoodEntry (rows columns : ℕ) (e : Entry) : Type 0 where
  pub column : e.column < columns
  pub row : e.row < rows
  pub value : IsWhole e.value

-- ---- the entries that lines name

abbrev pub named : List Name → List Name → Entry → NamedEntry
named rs cs e = record { column = name_at cs e.column; row = name_at rs e.row; value = e.value }

abbrev pub entry_lines : List Name → List Name → ℕ → List Entry → List Line
entry_lines rs cs n es = all_said n (map (entry_words rs cs) es)

abbrev AreWhole : List Entry → Type 0
AreWhole es = AllByRecursion (λ e. IsWhole e.value) es

one_said : (rs cs : List Name) (e : Entry) → IsWhole e.value → entries_on (entry_words rs cs e) ≡ named rs cs e ∷ []
one_said rs cs e h = λ i. record { column = name_at cs e.column; row = name_at rs e.row; value = text_value e.value h i } ∷ []

pub entries_said : (rs cs : List Name) (n : ℕ) (es : List Entry) → AreWhole es → entries_in (entry_lines rs cs n es) ≡ map (named rs cs) es
entries_said rs cs n [] h = refl
entries_said rs cs n (e ∷ es) h = (λ i. one_said rs cs e h.0 i ++ entries_said rs cs (n + 1) es h.1 i)

one_named : (rows : List NamedRow) (cs : List Name) (e : Entry) → AreDistinct (map row_name rows) → AreDistinct cs → IsGoodEntry (length rows) (length cs) e → entry_of (numbered 0 rows) cs (named (map row_name rows) cs e) ≡ e ∷ []
one_named rows cs e dr dc h =
    let r = row_there rows e.row h.row in
    ap (λ o. entry_at (place cs (name_at cs e.column)) e.value (number_of_row o)) (row_found rows e.row r dr)
    ∙ ap (λ k. record { column = k; row = e.row; value = e.value } ∷ []) (place_at cs e.column (name_at cs e.column) dc (name_there cs e.column h.column))

pub entries_again : (rows : List NamedRow) (cs : List Name) (es : List Entry) → AreDistinct (map row_name rows) → AreDistinct cs → AllByRecursion (IsGoodEntry (length rows) (length cs)) es
    → deck_entries (numbered 0 rows) cs (map (named (map row_name rows) cs) es) ≡ es
entries_again rows cs [] dr dc h = refl
entries_again rows cs (e ∷ es) dr dc h = λ i. one_named rows cs e dr dc h.0 i ++ entries_again rows cs es dr dc h.1 i

-- ---- one more entry

words_fine : (rows : List RowLine) (columns here : List Name) (k : ℕ) (c r v : Name) (x : RowLine) → bytes_eq r (codes "'MARKER'") ≡ false → is_split columns c ≡ false → row_named rows r ≡ Some x → has here r ≡ false → text_fault v ≡ None
    → ((not (has columns c) && nat_le MOST_COLUMNS (length columns)) || nat_lt MOST_ENTRIES (k + 1)) ≡ false → column_fault rows columns here k (c ∷ r ∷ v ∷ []) ≡ None
words_fine rows columns here k c r v x marker split row twice text full =
    let all = full_fault columns k c 1 in
    ap (λ t. fault_if t IntegerMarker or (fault_if (is_split columns c) ColumnSplit or (entry_fault rows (has here r) r v or all))) marker
    ∙ ap (λ t. fault_if t ColumnSplit or (entry_fault rows (has here r) r v or all)) split
    ∙ ap (λ o. (fault_if (is_none o) UnknownName or (fault_if (has here r) EntryTwice or text_fault v)) or all) row
    ∙ ap (λ t. (fault_if t EntryTwice or text_fault v) or all) twice
    ∙ ap (λ o. o or all) text
    ∙ ap (λ t. fault_if t TooMany) full

-- the column is the last one that has begun, or the next one
record IsNextColumn (cs : List Name) (k next : ℕ) (e : Entry) : Type 0 where
  pub first : k ≤ suc e.column
  pub last : e.column ≤ k
  pub full : (not (has (take k cs) (name_at cs e.column)) && nat_le MOST_COLUMNS (length (take k cs))) ≡ false
  pub added : add_name (take k cs) (name_at cs e.column) ≡ take next cs

length_taken : (cs : List Name) (k : ℕ) → k ≤ length cs → length (take k cs) ≡ k
length_taken cs k l = length-take-le k cs l

begins : (cs : List Name) (k : ℕ) (e : Entry) → AreDistinct cs → length cs ≤ MOST_COLUMNS → e.column < length cs → e.column ≡ k → IsNextColumn cs k (suc k) e
begins cs k e d few l same =
    let c = name_at cs e.column in
    let there : slice_get cs k ≡ Some c = ap (slice_get cs) (sym same) ∙ name_there cs e.column l in
    record {
      first = omega (arith, same);
      last = omega (arith, same);
      full = and_right (not (has (take k cs) c)) (nat_le MOST_COLUMNS (length (take k cs))) (lt-leb MOST_COLUMNS (length (take k cs)) (omega (arith, length_taken cs k (omega (arith, l, same)), few, l, same)));
      added = ap (λ t. cond t (take k cs) (take k cs ++ c ∷ [])) (not_taken cs k c d there) ∙ take_next cs k c there;
    }

goes_on : (cs : List Name) (k : ℕ) (e : Entry) → e.column < length cs → suc e.column ≡ k → IsNextColumn cs k k e
goes_on cs k e l same =
    let c = name_at cs e.column in
    let there : has (take k cs) c ≡ true = has_taken cs k e.column c (name_there cs e.column l) (omega (arith, same)) in
    record {
      first = omega (arith, same);
      last = omega (arith, same);
      full = and_left (not (has (take k cs) c)) (nat_le MOST_COLUMNS (length (take k cs))) (not_from_true (has (take k cs) c) there);
      added = ap (λ t. cond t (take k cs) (take k cs ++ c ∷ [])) there;
    }

not_split : (cs : List Name) (k next : ℕ) (e : Entry) → AreDistinct cs → k ≤ length cs → e.column < length cs → IsNextColumn cs k next e → is_split (take k cs) (name_at cs e.column) ≡ false
not_split cs k next e d short l n =
    le-ltb (place (take k cs) (name_at cs e.column) + 1) (length (take k cs))
    (omega (arith, length_taken cs k short, place_taken cs k e.column (name_at cs e.column) d (name_there cs e.column l) n.last, n.first))

-- ---- the rows of the column

abbrev row_in : NamedEntry → Name
row_in e = e.row

kept_apart : (t : Bool) (x : NamedEntry) (xs : List NamedEntry) (r : Name) → bytes_eq r x.row ≡ false → has (map row_in xs) r ≡ false → has (map row_in (cond t (x ∷ xs) xs)) r ≡ false
kept_apart true x xs r e h = or_from (bytes_eq r x.row) (has (map row_in xs) r) e h
kept_apart false x xs r e h = h

here_apart : (rs cs : List Name) (e : Entry) (done : List Entry) → AreDistinct rs → AreDistinct cs → IsGoodEntry (length rs) (length cs) e → AllByRecursion (IsGoodEntry (length rs) (length cs)) done → AllByRecursion (IsApartFrom e) done
    → has (rows_in (name_at cs e.column) (map (named rs cs) done)) (name_at rs e.row) ≡ false
here_apart rs cs e [] dr dc h all apart = refl
here_apart rs cs e (d ∷ done) dr dc h all apart =
    let c = name_at cs e.column in
    let r = name_at rs e.row in
    let x = named rs cs d in
    let xs = filter (λ (y : NamedEntry). bytes_eq c y.column) (map (named rs cs) done) in
    let rest = here_apart rs cs e done dr dc h all.1 apart.1 in
    elim (cases_eq d.column e.column) [
      | inl same ↦
          kept_apart (bytes_eq c x.column) x xs r
          (one_place rs e.row d.row r x.row dr (name_there rs e.row h.row) (name_there rs d.row all.0.row) (λ k. apart.0 same (sym k))) rest
      | inr other ↦
          ap (λ t. has (map row_in (cond t (x ∷ xs) xs)) r)
          (one_place cs e.column d.column c x.column dc (name_there cs e.column h.column) (name_there cs d.column all.0.column) (λ k. other (sym k)))
          ∙ rest
    ]

-- ---- all entries

marker_at : (rows : List NamedRow) (i : ℕ) → AllByRecursion IsNoMarker rows → (r : RowThere rows i) → bytes_eq (name_at (map row_name rows) i) (codes "'MARKER'") ≡ false
marker_at rows i h r = ap (λ n. bytes_eq n (codes "'MARKER'")) r.name ∙ all_at IsNoMarker rows i r.row h r.there

-- what stays the same over the lines
pub record AreColumnsOf (lines : List Line) (rows : List NamedRow) (cs : List Name) : Type 0 where
  pub rows_are : lined_rows lines ≡ numbered 0 rows
  pub row_names : AreDistinct (map row_name rows)
  pub names : AreDistinct cs
  pub few : length cs ≤ MOST_COLUMNS
  pub no_markers : AllByRecursion IsNoMarker rows

abbrev Good : List NamedRow → List Name → Entry → Type 0
Good rows cs e = IsGoodEntry (length rows) (length cs) e

abbrev AreRight : List Line → List NamedRow → List Name → List Line → ℕ → List Entry → Type 0
AreRight lines rows cs before n es =
    IsRightBy (columns_fault lines) before (entry_lines (map row_name rows) cs n es) × (column_names (before ++ entry_lines (map row_name rows) cs n es) ≡ cs)

named_rows : (rows : List NamedRow) → length (map row_name rows) ≡ length rows
named_rows rows = length-map rows row_name

good_names : (rows : List NamedRow) (cs : List Name) (e : Entry) → Good rows cs e → IsGoodEntry (length (map row_name rows)) (length cs) e
good_names rows cs e h = record { column = h.column; row = omega (arith, h.row, named_rows rows); value = h.value }

entry_right : (lines : List Line) (rows : List NamedRow) (cs : List Name) (before : List Line) (done : List Entry) (e : Entry) (k next : ℕ) → AreColumnsOf lines rows cs → entries_in before ≡ map (named (map row_name rows) cs) done → column_names before ≡ take k cs
    → k ≤ length cs → AllByRecursion (Good rows cs) done → Good rows cs e → AllByRecursion (IsApartFrom e) done → length done + 1 ≤ MOST_ENTRIES → IsNextColumn cs k next e
    → columns_fault lines before (entry_words (map row_name rows) cs e) ≡ None
entry_right lines rows cs before done e k next a entries columns short all h apart few n =
    let rs = map row_name rows in
    let c = name_at cs e.column in
    let r = name_at rs e.row in
    let v = entry_words rs cs e in
    let x = row_there rows e.row h.row in
    let here = rows_in c (map (named rs cs) done) in
    let count : length (map (named rs cs) done) ≡ length done = length-map done (named rs cs) in
    (λ i. column_fault (a.rows_are i) (columns i) (rows_in c (entries i)) (length (entries i)) v)
    ∙ words_fine (numbered 0 rows) (take k cs) here (length (map (named rs cs) done)) c r (signed_decimal e.value.num) (numbered_row e.row x.row) (marker_at rows e.row a.no_markers x) (not_split cs k next e a.names short h.column n)
    (row_found rows e.row x a.row_names)
    (here_apart rs cs e done a.row_names a.names (good_names rows cs e h) (all_weaker (Good rows cs) (IsGoodEntry (length rs) (length cs)) (good_names rows cs) done all) apart)
    (fine_text e.value h.value)
    (or_from (not (has (take k cs) c) && nat_le MOST_COLUMNS (length (take k cs))) (nat_lt MOST_ENTRIES (length (map (named rs cs) done) + 1)) n.full (le-ltb MOST_ENTRIES (length (map (named rs cs) done) + 1) (omega (arith, count, few))))

pub columns_right : (lines : List Line) (rows : List NamedRow) (cs : List Name) (before : List Line) (done es : List Entry) (k n : ℕ) → AreColumnsOf lines rows cs → entries_in before ≡ map (named (map row_name rows) cs) done → column_names before ≡ take k cs
    → k ≤ length cs → AllByRecursion (Good rows cs) done → AllByRecursion (Good rows cs) es → AreApart done es → length done + length es ≤ MOST_ENTRIES → FollowColumns (length cs) k es
    → AreRight lines rows cs before n es
columns_right lines rows cs before done [] k n a entries columns short all h apart few order =
    (tt, ap column_names (append-nil before) ∙ columns ∙ take_all k cs (omega (arith, order)))
columns_right lines rows cs before done (e ∷ es) k n a entries columns short all h apart few order = elim order [
  | inl f ↦ step (suc k) (begins cs k e a.names a.few h.0.column f.0) (omega (arith, f.0, h.0.column)) (λ added names. columns_right lines rows cs (before ++ l ∷ []) (done ++ e ∷ []) es (suc k) (n + 1) a added names (omega (arith, f.0, h.0.column)) more h.1 apart.1 longer f.1)
  | inr f ↦ step k (goes_on cs k e h.0.column f.0) short (λ added names. columns_right lines rows cs (before ++ l ∷ []) (done ++ e ∷ []) es k (n + 1) a added names short more h.1 apart.1 longer f.1)
]
  where
    rs : List Name
    rs = map row_name rows

    l : Line
    l = said n (entry_words rs cs e)

    more : AllByRecursion (Good rows cs) (done ++ e ∷ [])
    more = all_append (Good rows cs) done (e ∷ []) all (h.0, tt)

    longer : length (done ++ e ∷ []) + length es ≤ MOST_ENTRIES
    longer = omega (arith, few, length-append done (e ∷ []))

    step : (next_k : ℕ) → (m : IsNextColumn cs k next_k e) → next_k ≤ length cs → (entries_in (before ++ l ∷ []) ≡ map (named rs cs) (done ++ e ∷ []) → column_names (before ++ l ∷ []) ≡ take next_k cs → AreRight lines rows cs (before ++ l ∷ []) (n + 1) es) → AreRight lines rows cs before n (e ∷ es)
    step next_k m fits onward =
        let added : entries_in (before ++ l ∷ []) ≡ map (named rs cs) (done ++ e ∷ []) =
        flat_map-append (λ (x : Line). entries_on x.fields) before (l ∷ []) ∙ (λ i. entries i ++ (one_said rs cs e h.0.value i ++ [])) ∙ sym (map-append (named rs cs) done (e ∷ [])) in
        let names : column_names (before ++ l ∷ []) ≡ take next_k cs = columns_push before l ∙ ap (λ ns. add_name ns (name_at cs e.column)) columns ∙ m.added in
        let rest = onward added names in (
          (entry_right lines rows cs before done e k next_k a entries columns short all h.0 apart.0 (omega (arith, few)) m, rest.0),
          ap column_names (sym (append_assoc before (l ∷ []) (entry_lines rs cs (n + 1) es))) ∙ rest.1,
        )
