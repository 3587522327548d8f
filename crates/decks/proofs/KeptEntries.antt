-- Entries as columns and entries are added: the columns of a row's entries ascend.
use Rattle.std.proofs.Common.{ℕ, ◌+◌, ◌≤◌, ◌<◌, ◌≡◌, Bool, true, false, cond, eqb, List, [], ◌∷◌, ◌++◌, length, map, Option, Some, None, refl, sym, ap, subst, ◌∙◌, arith}
use Rattle.std.proofs.lemmas.Bool.{and_parts, and_from, or_parts, lt-ltb, eqb-true, true≢false}
use Rattle.std.proofs.lemmas.List.{append-nil, map-append}
use Rattle.std.proofs.lemmas.List.Concat.{flat_map-append}
use Rattle.std.proofs.lemmas.List.Elements.{filter-append}
use Rattle.std.specs.Prelude.{nat_lt, filter}
use Rattle.std.specs.List.{AllByRecursion}
use Rattle.std.specs.Str.{bytes_eq}
use Rattle.lp_base.specs.Ascending.{ascends_by}
use Rattle.mps_lex.specs.Kinds.{Name}
use Rattle.decks.specs.declared.deck.Entry.{Entry}
use Rattle.decks.specs.Decks.{IsDeckNumber, entry_column, entries_of}
use Rattle.decks.specs.Names.{has, place, add_name}
use Rattle.decks.specs.Spelling.{RowLine, row_named, number_of_row, NamedEntry, rows_in, entry_at, entry_of, deck_entries}
use Rattle.decks.proofs.KeptParts.{all_append, all_weaker}
use Rattle.decks.proofs.KeptNames.{own_name, place_has, place_same, has_more, place_more, place_own}
use Rattle.decks.proofs.KeptRows.{RowsKept, same_number}

-- an entry in a column that stands, with a number
pub record IsNamed (columns : List Name) (e : NamedEntry) : Type 0 where
  pub column : has columns e.column ≡ true
  pub value : IsDeckNumber e.value

pub record EntriesKept (rows : List RowLine) (columns : List Name) (es : List NamedEntry) : Type 0 where
  pub named : AllByRecursion (IsNamed columns) es
  pub ascending : (row : ℕ) → ascends_by entry_column (entries_of (deck_entries rows columns es) row) ≡ true

-- ---- a column is added

entries_same : (rows : List RowLine) (columns : List Name) (c : Name) (es : List NamedEntry) → AllByRecursion (IsNamed columns) es → deck_entries rows (add_name columns c) es ≡ deck_entries rows columns es
entries_same rows columns c [] h = refl
entries_same rows columns c (e ∷ es) h =
    ap (λ (j : ℕ). entry_at j e.value (number_of_row (row_named rows e.row)) ++ deck_entries rows (add_name columns c) es) (place_more columns c e.column h.0.column)
    ∙ ap (λ (x : List Entry). entry_of rows columns e ++ x) (entries_same rows columns c es h.1)

named_more : (columns : List Name) (c : Name) (e : NamedEntry) → IsNamed columns e → IsNamed (add_name columns c) e
named_more columns c e h = record { column = has_more columns c e.column h.column; value = h.value }

pub column_added : (rows : List RowLine) (columns : List Name) (c : Name) (es : List NamedEntry) → EntriesKept rows columns es → EntriesKept rows (add_name columns c) es
column_added rows columns c es h = record {
  named = all_weaker (IsNamed columns) (IsNamed (add_name columns c)) (named_more columns c) es h.named;
  ascending = λ row. ap (λ (x : List Entry). ascends_by entry_column (entries_of x row)) (entries_same rows columns c es h.named) ∙ h.ascending row;
}

-- no entry is in a later column
abbrev pub IsLast : List Name → Name → List NamedEntry → Type 0
IsLast columns c es = AllByRecursion (λ e. place columns e.column ≤ place columns c) es

pub last_added : (columns : List Name) (c : Name) (es : List NamedEntry) → length columns ≤ place columns c + 1 → AllByRecursion (IsNamed columns) es → IsLast (add_name columns c) c es
last_added columns c es whole h = all_weaker (IsNamed columns) (λ e. place (add_name columns c) e.column ≤ place (add_name columns c) c)
    (λ e n. omega (arith, whole, place_has columns e.column n.column, place_more columns c e.column n.column, place_own columns c)) es h

-- ---- an entry is added

abbrev IsBelow : ℕ → Entry → Type 0
IsBelow n e = entry_column e < n

ascends_push : (xs : List Entry) (e : Entry) → ascends_by entry_column xs ≡ true → AllByRecursion (IsBelow (entry_column e)) xs → ascends_by entry_column (xs ++ e ∷ []) ≡ true
ascends_push [] e h a = refl
ascends_push (x ∷ []) e h a = and_from (nat_lt (entry_column x) (entry_column e)) true (lt-ltb _ _ a.0) refl
ascends_push (x ∷ y ∷ xs) e h a = let p = and_parts (nat_lt (entry_column x) (entry_column y)) (ascends_by entry_column (y ∷ xs)) h in and_from _ _ p.0 (ascends_push (y ∷ xs) e p.1 a.1)

-- a column of another name stands elsewhere
apart : (columns : List Name) (c d : Name) → has columns d ≡ true → has columns c ≡ true → bytes_eq c d ≡ false → place columns d ≤ place columns c → place columns d < place columns c
apart columns c d hd hc other le =
    let differ : place columns d ≡ place columns c → ⊥ = λ e. true≢false (sym (own_name c) ∙ ap (bytes_eq c) (sym (place_same columns d c hd hc e)) ∙ other) in
    omega (arith, le, differ)

fresh_rest : (b : Bool) (e : NamedEntry) (es : List NamedEntry) (r : Name) → has (map (λ (x : NamedEntry). x.row) (cond b (e ∷ es) es)) r ≡ false → has (map (λ (x : NamedEntry). x.row) es) r ≡ false
fresh_rest true e es r h = (or_parts _ _ h).1
fresh_rest false e es r h = h

fresh_here : (b : Bool) (e : NamedEntry) (es : List NamedEntry) (r : Name) → has (map (λ (x : NamedEntry). x.row) (cond b (e ∷ es) es)) r ≡ false → e.row ≡ r → b ≡ false
fresh_here true e es r h same = absurd (true≢false (sym (own_name r) ∙ ap (bytes_eq r) (sym same) ∙ (or_parts _ _ h).0))
fresh_here false e es r h same = refl

-- where an entry is in the row that is added to, it is in an earlier column
below_one : (rows : List RowLine) (columns : List Name) (c r : Name) (k : ℕ) (e : NamedEntry) (o : Option ℕ) → RowsKept rows → has columns c ≡ true → number_of_row (row_named rows r) ≡ Some k
    → IsNamed columns e → place columns e.column ≤ place columns c → (e.row ≡ r → bytes_eq c e.column ≡ false) → number_of_row (row_named rows e.row) ≡ o
    → AllByRecursion (IsBelow (place columns c)) (entries_of (entry_at (place columns e.column) e.value o) k)
below_one rows columns c r k e None h hc number n le fresh o = tt
below_one rows columns c r k e (Some j) h hc number n le fresh o = by (eqb j k) refl
  where
    x : Entry
    x = record { column = place columns e.column; row = j; value = e.value }

    by : (b : Bool) → eqb j k ≡ b → AllByRecursion (IsBelow (place columns c)) (cond b (x ∷ []) [])
    by true q =
        let same : e.row ≡ r = same_number rows e.row r k h (o ∙ ap (λ (i : ℕ). Some i) (eqb-true j k q)) number in
        (apart columns c e.column n.column hc (fresh same) le, tt)
    by false q = tt

below : (rows : List RowLine) (columns : List Name) (c r : Name) (k : ℕ) (es : List NamedEntry) → RowsKept rows → has columns c ≡ true → number_of_row (row_named rows r) ≡ Some k
    → AllByRecursion (IsNamed columns) es → IsLast columns c es → has (rows_in c es) r ≡ false → AllByRecursion (IsBelow (place columns c)) (entries_of (deck_entries rows columns es) k)
below rows columns c r k [] h hc number n last fresh = tt
below rows columns c r k (e ∷ es) h hc number n last fresh =
    let kept = filter (λ (x : NamedEntry). bytes_eq c x.column) es in
    let o = number_of_row (row_named rows e.row) in
    let here = below_one rows columns c r k e o h hc number n.0 last.0 (fresh_here (bytes_eq c e.column) e kept r fresh) refl in
    let rest = below rows columns c r k es h hc number n.1 last.1 (fresh_rest (bytes_eq c e.column) e kept r fresh) in
    subst (AllByRecursion (IsBelow (place columns c))) (sym (filter-append (λ (x : Entry). eqb x.row k) (entry_of rows columns e) (deck_entries rows columns es)))
    (all_append (IsBelow (place columns c)) (entries_of (entry_of rows columns e) k) (entries_of (deck_entries rows columns es) k) here rest)

entries_push : (rows : List RowLine) (columns : List Name) (es : List NamedEntry) (e : NamedEntry) → deck_entries rows columns (es ++ e ∷ []) ≡ deck_entries rows columns es ++ entry_of rows columns e
entries_push rows columns es e = flat_map-append (entry_of rows columns) es (e ∷ []) ∙ ap (λ (x : List Entry). deck_entries rows columns es ++ x) (append-nil (entry_of rows columns e))

still_ascends : (columns : List Name) (e : NamedEntry) (xs : List Entry) (row : ℕ) (o : Option ℕ) → ((r : ℕ) → ascends_by entry_column (entries_of xs r) ≡ true) → ((k : ℕ) → o ≡ Some k → AllByRecursion (IsBelow (place columns e.column)) (entries_of xs k))
    → ascends_by entry_column (entries_of xs row ++ entries_of (entry_at (place columns e.column) e.value o) row) ≡ true
still_ascends columns e xs row None h low = ap (ascends_by entry_column) (append-nil (entries_of xs row)) ∙ h row
still_ascends columns e xs row (Some k) h low = by (eqb k row) refl
  where
    x : Entry
    x = record { column = place columns e.column; row = k; value = e.value }

    by : (b : Bool) → eqb k row ≡ b → ascends_by entry_column (entries_of xs row ++ cond b (x ∷ []) []) ≡ true
    by true q = ascends_push (entries_of xs row) x (h row) (subst (λ (r : ℕ). AllByRecursion (IsBelow (place columns e.column)) (entries_of xs r)) (eqb-true k row q) (low k refl))
    by false q = ap (ascends_by entry_column) (append-nil (entries_of xs row)) ∙ h row

-- an entry of the last column, in a row in which it has none
pub entry_added : (rows : List RowLine) (columns : List Name) (es : List NamedEntry) (e : NamedEntry) → RowsKept rows → EntriesKept rows columns es → IsNamed columns e → IsLast columns e.column es → has (rows_in e.column es) e.row ≡ false
    → EntriesKept rows columns (es ++ e ∷ [])
entry_added rows columns es e h kept n last fresh = record {
  named = all_append (IsNamed columns) es (e ∷ []) kept.named (n, tt);
  ascending = λ row. ap (λ (x : List Entry). ascends_by entry_column (entries_of x row)) (entries_push rows columns es e)
      ∙ ap (ascends_by entry_column) (filter-append (λ (x : Entry). eqb x.row row) (deck_entries rows columns es) (entry_of rows columns e))
      ∙ still_ascends columns e (deck_entries rows columns es) row (number_of_row (row_named rows e.row)) kept.ascending (λ k q. below rows columns e.column e.row k es h n.column q kept.named last fresh);
}

pub rows_push : (c : Name) (es : List NamedEntry) (e : NamedEntry) → e.column ≡ c → rows_in c (es ++ e ∷ []) ≡ rows_in c es ++ e.row ∷ []
rows_push c es e same =
    ap (map (λ (x : NamedEntry). x.row)) (filter-append (λ (x : NamedEntry). bytes_eq c x.column) es (e ∷ []) ∙ ap (λ (b : Bool). filter (λ (x : NamedEntry). bytes_eq c x.column) es ++ cond b (e ∷ []) []) (ap (bytes_eq c) same ∙ own_name c))
    ∙ map-append (λ (x : NamedEntry). x.row) (filter (λ (x : NamedEntry). bytes_eq c x.column) es) (e ∷ [])
