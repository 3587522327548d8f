-- The deck of a complementarity problem keeps the facts of a deck.
use Rattle.std.proofs.Common.{◌≡◌, ℕ, zero, suc, ◌+◌, ◌<◌, ◌≤◌, List, [], ◌∷◌, ◌++◌, length, refl, sym, ap, subst, ◌∙◌, arith, ℤ, pos, negsuc, neg_ℤ, Some, slice_get}
use Rattle.std.specs.Prelude.{All, unsigned_abs}
use Rattle.std.specs.List.{enumerate_from, flat_map, range_with_len}
use Rattle.std.proofs.lemmas.List.{append-nil, length-append}
use Rattle.std.proofs.lemmas.List.Elements.{All-cons, All-nil}
use Rattle.std.proofs.lemmas.List.FromFn.{length-map-range_with_len}
use Rattle.decks.specs.Bounds.{default_column}
use Rattle.decks.specs.Decks.{IsColumn, IsDeck, IsRow, NamesQuantity, entries_of, entry_column}
use Rattle.decks.specs.declared.deck.Entry.{Entry}
use Rattle.decks.specs.declared.deck.Letter.{Letter}
use Rattle.decks.specs.declared.deck.Letter.TheVariants.{N, G}
use Rattle.decks.specs.declared.deck.PairLine.{PairLine}
use Rattle.decks.specs.declared.deck.Row as rows
use Rattle.front_text.specs.declared.problem.Lcp.{Lcp}
use Rattle.front_text.specs.Problems.{Fits, IsLcp, coefficient_at, lcp_counts, number_of_terms}
use Rattle.kkt_front.specs.Decks.{block, entry, lcp_deck, lcp_entries, lcp_pair, lcp_row, listed, row}
use Rattle.kkt_front.specs.DeckTexts.{number_at, row_of}
use Rattle.kkt_front.proofs.LcpMeaning.{all_listed}
use Rattle.kkt_front.proofs.Rows.{found, there}
use Rattle.cert_text.proofs.Ascents.{Ascend, ascend_more}
use Rattle.deck_case.specs.CaseParts.{column_constraints, constraints_of_columns, constraints_of_rows, row_constraints}
use Rattle.deck_case.specs.DeckCases.{HasCase, case_of_deck}
use Rattle.deck_case.specs.Wide.{wide_column}
use Rattle.decks.specs.declared.deck.Column.{Column}
use Rattle.front_case.proofs.Narrowness.{HasSoMany, IsNarrowRow, IsOneRow, narrow_row, no_wide_columns, no_wide_rows, one_default, one_g, ones_counted, rows_counted, scale_one}
use Rattle.front_case.proofs.Lists.{all_flat}
use Rattle.front_case.proofs.Numbers.{coefficient_fits}
use Rattle.front_case.proofs.Keeping.{AreFew, IsGood, all_block, default_kept, few, good, row_kept}
use Rattle.front_case.proofs.Singles.{IsSingle, ascend_flat, block_ascends, entry_row, row_flat, single_in}
use Rattle.front_case.proofs.Totals.{has, length_block, length_flat, rows_used, total, total_add, total_ones, total_same, total_swap}

abbrev coefficients : Lcp → ℕ → ℕ → ℤ
coefficients p j i = coefficient_at (row_of p i) j

right_fits : (p : Lcp) (i : ℕ) → IsLcp p → i < p.size → Fits (neg_ℤ (number_at p.q i))
right_fits p i h l = negated (number_at p.q i) (h.fitting i (pos 0) (omega (arith, l, h.numbers)))
  where
    negated : (z : ℤ) → Fits z → Fits (neg_ℤ z)
    negated (pos zero) f = f
    negated (pos (suc n)) f = f
    negated (negsuc n) f = f

all_good : (p : Lcp) (j : ℕ) → IsLcp p → j < p.size → All (IsGood p.size (1 + p.size)) (lcp_entries p j)
all_good p j h l =
    All-cons (IsGood p.size (1 + p.size)) (entry j 0 (pos 0)) (block j 1 (coefficients p j) p.size) (good p.size (1 + p.size) j 0 (pos 0) l (omega arith) refl)
    (all_block (IsGood p.size (1 + p.size)) j 1 (coefficients p j) p.size (λ i li. good p.size (1 + p.size) j (1 + i) (coefficients p j i) l (omega (arith, li)) (coefficient_fits 0 p.size (row_of p i) j (h.rows i [] (omega (arith, li, h.size))))))

entries_good : (p : Lcp) (end : ℕ) → IsLcp p → All (IsGood p.size (1 + p.size)) (lcp_deck p end).entries
entries_good p end h = all_flat (IsGood p.size (1 + p.size)) (lcp_entries p) 0 p.size (λ j low high. all_good p j h (omega (arith, high)))

-- ---- how many entries there are

column_length : (p : Lcp) (j : ℕ) → length (lcp_entries p j) ≡ 1 + total (λ i. has (row_of p i) j) 0 p.size
column_length p j = ap suc (length_block j 1 (coefficients p j) p.size) ∙ (let z : suc (total (λ i. has (row_of p i) j) 0 p.size) ≡ 1 + total (λ i. has (row_of p i) j) 0 p.size = omega arith in z)

few_entries : (p : Lcp) (end : ℕ) → IsLcp p → length (lcp_deck p end).entries ≤ (lcp_counts p.size p.rows).entries
few_entries p end h =
    let terms : total (λ i. total (has (row_of p i)) 0 p.size) 0 p.size ≤ number_of_terms p.rows =
    subst (λ n. total (λ i. total (has (row_of p i)) 0 p.size) 0 n ≤ number_of_terms p.rows) h.size (rows_used p.rows p.size) in
    omega (
      arith,
      terms,
      length_flat (lcp_entries p) 0 p.size,
      total_same (λ j. length (lcp_entries p j)) (λ j. 1 + total (λ i. has (row_of p i) j) 0 p.size) 0 p.size (column_length p),
      total_add (λ j. 1) (λ j. total (λ i. has (row_of p i) j) 0 p.size) 0 p.size,
      total_ones 0 p.size,
      total_swap (λ j i. has (row_of p i) j) 0 p.size 0 p.size,
    )

-- ---- the order of entries

of_column : (p : Lcp) (j : ℕ) → All (λ (e : Entry). e.column ≡ j) (lcp_entries p j)
of_column p j = All-cons (λ (e : Entry). e.column ≡ j) (entry j 0 (pos 0)) (block j 1 (coefficients p j) p.size) refl (all_block (λ (e : Entry). e.column ≡ j) j 1 (coefficients p j) p.size (λ i li. refl))

rows_ascend : (p : Lcp) (j : ℕ) → Ascend entry_row 0 (lcp_entries p j)
rows_ascend p j =
    subst (λ es. Ascend entry_row 0 (entry j 0 (pos 0) ∷ es)) (append-nil (block j 1 (coefficients p j) p.size))
    (ascend_more entry_row 0 (entry j 0 (pos 0)) (block j 1 (coefficients p j) p.size ++ []) (omega arith) (block_ascends j 1 (coefficients p j) p.size [] (tt, refl)))

columns_ascend : (p : Lcp) (end k : ℕ) → Ascend entry_column 0 (entries_of (lcp_deck p end).entries k)
columns_ascend p end k =
    let f : ℕ → List Entry = λ j. entries_of (lcp_entries p j) k in
    subst (λ es. Ascend entry_column 0 es) (append-nil (flat_map f (range_with_len 0 p.size)) ∙ sym (row_flat (lcp_entries p) k 0 p.size))
    (ascend_flat entry_column 0 f 0 p.size [] (λ j. subst (λ c. IsSingle entry_column c (f j)) (let z : j ≡ 0 + j = omega arith in z) (single_in (lcp_entries p j) 0 k j (rows_ascend p j) (of_column p j))) (tt, refl))

-- ---- rows and pairs

letters : (p : Lcp) (end k : ℕ) (r : rows.Row) → slice_get (lcp_deck p end).rows k ≡ Some r → (k ≡ 0 → ⊥) → (r.letter ≡ N → ⊥)
letters p end zero r e ne same = ne refl
letters p end (suc k) r e ne same =
    let is = found (lcp_row p) p.size k r e in
    let other : G ≡ N = ap (λ (x : rows.Row). x.letter) is.1 ∙ same in
    absurd (cc other)

pair_named : (p : Lcp) (end i : ℕ) → i < p.size → NamesQuantity (lcp_deck p end) (lcp_pair i).a × NamesQuantity (lcp_deck p end) (lcp_pair i).b
pair_named p end i l = (
  (lcp_row p i, ap (slice_get (lcp_deck p end).rows) (let z : 1 + i ≡ suc i = omega arith in z) ∙ there (lcp_row p) p.size i l, refl),
  (default_column, there (λ j. default_column) p.size i l, refl, refl),
)

sized : {X : Type 0} (f : ℕ → X) (n : ℕ) → length (listed f n) ≡ n
sized f n = length-map-range_with_len f 0 n

pub is_deck : (p : Lcp) (end : ℕ) → IsLcp p → IsDeck (lcp_deck p end)
is_deck p end h =
    let f : AreFew (lcp_counts p.size p.rows) = few (lcp_counts p.size p.rows) h.few in
    let all = entries_good p end h in
    record {
      few_rows = omega (arith, f.rows, sized (lcp_row p) p.size);
      few_columns = omega (arith, f.columns, sized (λ j. default_column) p.size);
      few_entries = omega (arith, f.entries, few_entries p end h);
      few_pairs = omega (arith, f.pairs, sized lcp_pair p.size, ap length (append-nil (listed lcp_pair p.size)));
      objective = (row N 3 (pos 0), refl, refl);
      others = letters p end;
      rows = All-cons IsRow (row N 3 (pos 0)) (listed (lcp_row p) p.size) (row_kept N 3 (pos 0) refl) (all_listed IsRow (lcp_row p) p.size (λ i l. row_kept G (4 + i) (neg_ℤ (number_at p.q i)) (right_fits p i h l)));
      columns = all_listed IsColumn (λ j. default_column) p.size (λ i l. default_kept);
      entries_named = λ i d l. (omega (arith, (all i d l).column, sized (λ j. default_column) p.size), omega (arith, (all i d l).row, sized (lcp_row p) p.size));
      entry_values = λ i d l. (all i d l).number;
      ascending = λ k. (columns_ascend p end k).1;
      pairs_named = all_listed (λ (q : PairLine). NamesQuantity (lcp_deck p end) q.a × NamesQuantity (lcp_deck p end) q.b) lcp_pair p.size (pair_named p end);
      groups_named = All-nil (λ g. All (NamesQuantity (lcp_deck p end)) g.items);
    }

-- ---- its case

rows_narrow : (p : Lcp) → IsLcp p → All IsNarrowRow (row N 3 (pos 0) ∷ listed (lcp_row p) p.size)
rows_narrow p h = All-cons IsNarrowRow (row N 3 (pos 0)) (listed (lcp_row p) p.size) (narrow_row N 3 (pos 0) tt refl) (all_listed IsNarrowRow (lcp_row p) p.size (λ i l. narrow_row G (4 + i) (neg_ℤ (number_at p.q i)) tt (right_fits p i h l)))

rows_count : (p : Lcp) (es : List Entry) → length (constraints_of_rows es (enumerate_from 1 (listed (lcp_row p) p.size))) ≡ p.size
rows_count p es = rows_counted es 1 (listed (lcp_row p) p.size) (all_listed IsOneRow (lcp_row p) p.size (λ i l. one_g (4 + i) (neg_ℤ (number_at p.q i)))) ∙ sized (lcp_row p) p.size

columns_count : (p : Lcp) → length (constraints_of_columns (enumerate_from 0 (listed (λ j. default_column) p.size))) ≡ p.size
columns_count p = ones_counted 0 (listed (λ j. default_column) p.size) (all_listed (HasSoMany 1) (λ j. default_column) p.size (λ i l. one_default)) ∙ sized (λ j. default_column) p.size

pub has_case : (p : Lcp) (end : ℕ) → IsLcp p → HasCase (lcp_deck p end) (case_of_deck (lcp_deck p end))
has_case p end h =
    let d = lcp_deck p end in
    let f : AreFew (lcp_counts p.size p.rows) = few (lcp_counts p.size p.rows) h.few in
    record {
      narrow =
          ap (λ l. l ++ flat_map wide_column d.columns) (no_wide_rows p.size (1 + p.size) d.entries 0 d.rows (entries_good p end h) (rows_narrow p h))
          ∙ no_wide_columns d.columns (all_listed (λ (c : Column). wide_column c ≡ []) (λ j. default_column) p.size (λ i l. refl));
      few = omega (arith, f.constraints, length-append (row_constraints d) (column_constraints d), rows_count p d.entries, columns_count p);
      made = refl;
    }

pub scale_is : (p : Lcp) (end : ℕ) → IsLcp p → (case_of_deck (lcp_deck p end)).scale ≡ pos 1
scale_is p end h = ap pos (scale_one p.size (1 + p.size) (lcp_deck p end).entries (entries_good p end h))
