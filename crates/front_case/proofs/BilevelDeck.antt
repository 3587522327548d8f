-- The deck of a bilevel problem keeps the facts of a deck.
use Rattle.std.proofs.Common.{◌≡◌, ℕ, zero, suc, ◌+◌, ◌<◌, ◌≤◌, List, [], ◌∷◌, ◌++◌, eqb, length, map, refl, sym, ap, subst, ◌∙◌, append_assoc, arith, ℤ, pos, Some, slice_get}
use Rattle.std.specs.Prelude.{All}
use Rattle.std.specs.List.{enumerate_from, flat_map, range_with_len}
use Rattle.std.proofs.lemmas.List.{append-nil, length-append, length-map}
use Rattle.std.proofs.lemmas.List.Elements.{All-append, All-cons, All-nil, filter-append}
use Rattle.std.proofs.lemmas.Option.{get_or_from_slice_get, slice_get_within}
use Rattle.cert_text.proofs.Ascents.{Ascend, ascend_more}
use Rattle.decks.specs.Bounds.{default_column}
use Rattle.decks.specs.Decks.{IsColumn, IsDeck, IsRow, NamesQuantity, entries_of, entry_column}
use Rattle.decks.specs.declared.deck.Column.{Column}
use Rattle.decks.specs.declared.deck.Entry.{Entry}
use Rattle.decks.specs.declared.deck.Letter.TheVariants.{N, E, G}
use Rattle.decks.specs.declared.deck.PairLine.{PairLine}
use Rattle.decks.specs.declared.deck.Row as rows
use Rattle.front_text.specs.declared.problem.Bilevel.{Bilevel}
use Rattle.front_text.specs.declared.problem.Line.{Line}
use Rattle.front_text.specs.Problems.{Fits, IsBilevel, IsLine, bilevel_counts, coefficient_at, number_of_followers, number_of_terms, terms_of}
use Rattle.kkt_front.specs.Decks.{bilevel_deck, bilevel_pair, block, entry, follow_row, free_column, listed, low_row, lows, multiplier_entries, row, up_row, ups, variable_entries}
use Rattle.kkt_front.specs.DeckTexts.{line_at, no_line, number_at}
use Rattle.kkt_front.proofs.BilevelMeaning.{get_first, get_second, sized}
use Rattle.kkt_front.proofs.LcpMeaning.{all_listed}
use Rattle.kkt_front.proofs.Rows.{there}
use Rattle.deck_case.specs.CaseParts.{column_constraints, constraints_of_columns, constraints_of_rows, row_constraints}
use Rattle.deck_case.specs.DeckCases.{HasCase, case_of_deck}
use Rattle.deck_case.specs.Wide.{wide_column}
use Rattle.front_case.proofs.Narrowness.{HasSoMany, IsNarrowRow, IsOneRow, narrow_row, no_wide_columns, no_wide_rows, none_counted, none_free, one_default, one_e, one_g, offset_zero, rows_counted, scale_one}
use Rattle.front_case.proofs.Lists.{all_flat}
use Rattle.front_case.proofs.Numbers.{coefficient_fits}
use Rattle.front_case.proofs.Keeping.{AreFew, IsGood, all_block, default_kept, few, free_kept, good, row_kept}
use Rattle.front_case.proofs.Singles.{IsSingle, ascend_flat, block_ascends, entry_row, row_flat, single_in}
use Rattle.front_case.proofs.Totals.{followers_used, has, length_block, length_flat, lines_used, total, total_add, total_ones, total_same, total_shift, total_swap}

abbrev variables_of : Bilevel → ℕ
variables_of b = b.nx + b.ny

abbrev columns_of : Bilevel → ℕ
columns_of b = b.nx + b.ny + lows b

abbrev rows_of : Bilevel → ℕ
rows_of b = 1 + ups b + lows b + b.ny

abbrev line_coefficients : List Line → ℕ → ℕ → ℤ
line_coefficients lines j i = coefficient_at (line_at lines i).terms j

abbrev follow_coefficients : Bilevel → ℕ → ℕ → ℤ
follow_coefficients b i k = coefficient_at (line_at b.low i).terms (b.nx + k)

abbrev up_block : Bilevel → ℕ → List Entry
up_block b j = block j 1 (line_coefficients b.up j) (ups b)

abbrev low_block : Bilevel → ℕ → List Entry
low_block b j = block j (1 + ups b) (line_coefficients b.low j) (lows b)

abbrev follow_entries : Bilevel → ℕ → List Entry
follow_entries b i = block (variables_of b + i) (1 + ups b + lows b) (follow_coefficients b i) b.ny

-- ---- entries

line_fits : (b : Bilevel) (lines : List Line) (i j : ℕ) → All (IsLine (variables_of b)) lines → i < length lines → Fits (line_coefficients lines j i)
line_fits b lines i j h l = coefficient_fits 0 (variables_of b) (line_at lines i).terms j (h i no_line l).1

abbrev Good : Bilevel → Entry → Type 0
Good b e = IsGood (columns_of b) (rows_of b) e

variable_good : (b : Bilevel) (j : ℕ) → IsBilevel b → j < variables_of b → All (Good b) (variable_entries b j)
variable_good b j h l =
    let c = columns_of b in
    let r = rows_of b in
    All-cons (Good b) (entry j 0 (number_at b.cost j)) (up_block b j ++ low_block b j)
    (good c r j 0 (number_at b.cost j) (omega (arith, l)) (omega arith) (h.fitting j (pos 0) (omega (arith, l, h.costs))))
    (All-append (Good b) (up_block b j) (low_block b j)
    (all_block (Good b) j 1 (line_coefficients b.up j) (ups b) (λ i li. good c r j (1 + i) (line_coefficients b.up j i) (omega (arith, l)) (omega (arith, li)) (line_fits b b.up i j h.up li)))
    (all_block (Good b) j (1 + ups b) (line_coefficients b.low j) (lows b) (λ i li. good c r j (1 + ups b + i) (line_coefficients b.low j i) (omega (arith, l)) (omega (arith, li)) (line_fits b b.low i j h.low li))))

multiplier_good : (b : Bilevel) (i : ℕ) → IsBilevel b → i < lows b → All (Good b) (multiplier_entries b i)
multiplier_good b i h l =
    let c = columns_of b in
    let r = rows_of b in
    All-cons (Good b) (entry (variables_of b + i) 0 (pos 0)) (follow_entries b i) (good c r (variables_of b + i) 0 (pos 0) (omega (arith, l)) (omega arith) refl)
    (all_block (Good b) (variables_of b + i) (1 + ups b + lows b) (follow_coefficients b i) b.ny (λ k lk.
    good c r (variables_of b + i) (1 + ups b + lows b + k) (follow_coefficients b i k) (omega (arith, l)) (omega (arith, lk)) (line_fits b b.low i (b.nx + k) h.low l)))

abbrev variables : Bilevel → List Entry
variables b = flat_map (variable_entries b) (range_with_len 0 (variables_of b))

abbrev multipliers : Bilevel → List Entry
multipliers b = flat_map (multiplier_entries b) (range_with_len 0 (lows b))

entries_good : (b : Bilevel) → IsBilevel b → All (Good b) (variables b ++ multipliers b)
entries_good b h =
    All-append (Good b) (variables b) (multipliers b)
    (all_flat (Good b) (variable_entries b) 0 (variables_of b) (λ j low high. variable_good b j h (omega (arith, high))))
    (all_flat (Good b) (multiplier_entries b) 0 (lows b) (λ i low high. multiplier_good b i h (omega (arith, high))))

-- ---- how many entries there are

abbrev line_total : List Line → ℕ → ℕ
line_total lines j = total (λ i. has (line_at lines i).terms j) 0 (length lines)

abbrev follow_total : Bilevel → ℕ → ℕ
follow_total b i = total (has (line_at b.low i).terms) b.nx b.ny

variable_length : (b : Bilevel) (j : ℕ) → length (variable_entries b j) ≡ 1 + (line_total b.up j + line_total b.low j)
variable_length b j = omega (arith, length-append (up_block b j) (low_block b j), length_block j 1 (line_coefficients b.up j) (ups b), length_block j (1 + ups b) (line_coefficients b.low j) (lows b))

multiplier_length : (b : Bilevel) (i : ℕ) → length (multiplier_entries b i) ≡ 1 + follow_total b i
multiplier_length b i =
    omega (
      arith,
      length_block (variables_of b + i) (1 + ups b + lows b) (follow_coefficients b i) b.ny,
      total_shift (has (line_at b.low i).terms) b.nx 0 b.ny,
      ap (λ a. total (has (line_at b.low i).terms) a b.ny) (let z : b.nx + 0 ≡ b.nx = omega arith in z),
    )

lines_length : (b : Bilevel) (lines : List Line) → total (line_total lines) 0 (variables_of b) ≤ number_of_terms (map terms_of lines)
lines_length b lines = omega (arith, total_swap (λ j i. has (line_at lines i).terms j) 0 (variables_of b) 0 (length lines), lines_used lines (variables_of b) no_line)

variables_length : (b : Bilevel) → length (variables b) ≤ variables_of b + (number_of_terms (map terms_of b.up) + number_of_terms (map terms_of b.low))
variables_length b =
    let n = variables_of b in
    omega (
      arith,
      length_flat (variable_entries b) 0 n,
      total_same (λ j. length (variable_entries b j)) (λ j. 1 + (line_total b.up j + line_total b.low j)) 0 n (variable_length b),
      total_add (λ j. 1) (λ j. line_total b.up j + line_total b.low j) 0 n,
      total_ones 0 n,
      total_add (line_total b.up) (line_total b.low) 0 n,
      lines_length b b.up,
      lines_length b b.low,
    )

multipliers_length : (b : Bilevel) → length (multipliers b) ≤ lows b + number_of_followers b.nx (map terms_of b.low)
multipliers_length b =
    let n = lows b in
    omega (
      arith,
      length_flat (multiplier_entries b) 0 n,
      total_same (λ i. length (multiplier_entries b i)) (λ i. 1 + follow_total b i) 0 n (multiplier_length b),
      total_add (λ i. 1) (follow_total b) 0 n,
      total_ones 0 n,
      followers_used b.low b.nx b.ny no_line,
    )

-- ---- the order of entries

variable_of : (b : Bilevel) (j : ℕ) → All (λ (e : Entry). e.column ≡ j) (variable_entries b j)
variable_of b j =
    let P : Entry → Type 0 = λ e. e.column ≡ j in
    All-cons P (entry j 0 (number_at b.cost j)) (up_block b j ++ low_block b j) refl
    (All-append P (up_block b j) (low_block b j) (all_block P j 1 (line_coefficients b.up j) (ups b) (λ i li. refl)) (all_block P j (1 + ups b) (line_coefficients b.low j) (lows b) (λ i li. refl)))

multiplier_of : (b : Bilevel) (i : ℕ) → All (λ (e : Entry). e.column ≡ variables_of b + i) (multiplier_entries b i)
multiplier_of b i =
    let P : Entry → Type 0 = λ e. e.column ≡ variables_of b + i in
    All-cons P (entry (variables_of b + i) 0 (pos 0)) (follow_entries b i) refl (all_block P (variables_of b + i) (1 + ups b + lows b) (follow_coefficients b i) b.ny (λ k lk. refl))

variable_ascends : (b : Bilevel) (j : ℕ) → Ascend entry_row 0 (variable_entries b j)
variable_ascends b j =
    ascend_more entry_row 0 (entry j 0 (number_at b.cost j)) (up_block b j ++ low_block b j) (omega arith)
    (block_ascends j 1 (line_coefficients b.up j) (ups b) (low_block b j)
    (subst (λ es. Ascend entry_row (1 + ups b) es) (append-nil (low_block b j)) (block_ascends j (1 + ups b) (line_coefficients b.low j) (lows b) [] (tt, refl))))

weaker_row : (low high : ℕ) (es : List Entry) → low ≤ high → Ascend entry_row high es → Ascend entry_row low es
weaker_row low high [] le h = h
weaker_row low high (e ∷ es) le h = (omega (arith, le, h.0), h.1)

multiplier_ascends : (b : Bilevel) (i : ℕ) → Ascend entry_row 0 (multiplier_entries b i)
multiplier_ascends b i =
    ascend_more entry_row 0 (entry (variables_of b + i) 0 (pos 0)) (follow_entries b i) (omega arith)
    (weaker_row 1 (1 + ups b + lows b) (follow_entries b i) (omega arith)
    (subst (λ es. Ascend entry_row (1 + ups b + lows b) es) (append-nil (follow_entries b i)) (block_ascends (variables_of b + i) (1 + ups b + lows b) (follow_coefficients b i) b.ny [] (tt, refl))))

columns_ascend : (b : Bilevel) (k : ℕ) → Ascend entry_column 0 (entries_of (variables b ++ multipliers b) k)
columns_ascend b k =
    let n = variables_of b in
    let f : ℕ → List Entry = λ j. entries_of (variable_entries b j) k in
    let g : ℕ → List Entry = λ i. entries_of (multiplier_entries b i) k in
    let behind : Ascend entry_column (0 + (0 + n)) (flat_map g (range_with_len 0 (lows b))) =
    subst (λ es. Ascend entry_column (0 + (0 + n)) es) (append-nil (flat_map g (range_with_len 0 (lows b))))
    (subst (λ c. Ascend entry_column c (flat_map g (range_with_len 0 (lows b)) ++ [])) (let z : n + 0 ≡ 0 + (0 + n) = omega arith in z)
    (ascend_flat entry_column n g 0 (lows b) [] (λ i. single_in (multiplier_entries b i) 0 k (n + i) (multiplier_ascends b i) (multiplier_of b i)) (tt, refl))) in
    let both : entries_of (variables b ++ multipliers b) k ≡ flat_map f (range_with_len 0 n) ++ flat_map g (range_with_len 0 (lows b)) =
    filter-append (λ (e : Entry). eqb e.row k) (variables b) (multipliers b)
    ∙ ap (λ es. es ++ entries_of (multipliers b) k) (row_flat (variable_entries b) k 0 n)
    ∙ ap (λ es. flat_map f (range_with_len 0 n) ++ es) (row_flat (multiplier_entries b) k 0 (lows b)) in
    subst (λ es. Ascend entry_column 0 es) (sym both)
    (ascend_flat entry_column 0 f 0 n (flat_map g (range_with_len 0 (lows b)))
    (λ j. subst (λ c. IsSingle entry_column c (f j)) (let z : j ≡ 0 + j = omega arith in z) (single_in (variable_entries b j) 0 k j (variable_ascends b j) (variable_of b j))) behind)

-- ---- rows, columns and pairs

abbrev lines_and_numbers : Bilevel → List rows.Row
lines_and_numbers b = listed (up_row b) (ups b) ++ listed (low_row b) (lows b) ++ listed (follow_row b) b.ny

all_rows : (P : rows.Row → Type 0) (b : Bilevel) → ((i : ℕ) → i < ups b → P (up_row b i)) → ((i : ℕ) → i < lows b → P (low_row b i)) → ((k : ℕ) → k < b.ny → P (follow_row b k)) → All P (lines_and_numbers b)
all_rows P b u l f =
    All-append P (listed (up_row b) (ups b) ++ listed (low_row b) (lows b)) (listed (follow_row b) b.ny)
    (All-append P (listed (up_row b) (ups b)) (listed (low_row b) (lows b)) (all_listed P (up_row b) (ups b) u) (all_listed P (low_row b) (lows b) l))
    (all_listed P (follow_row b) b.ny f)

rows_kept : (b : Bilevel) → IsBilevel b → All IsRow (lines_and_numbers b)
rows_kept b h =
    all_rows IsRow b (λ i l. row_kept G (4 + i) (line_at b.up i).rhs (h.up i no_line l).0) (λ i l. row_kept G (4 + ups b + i) (line_at b.low i).rhs (h.low i no_line l).0)
    (λ k l. row_kept E (4 + ups b + lows b + k) (number_at b.follow k) (h.follow_fitting k (pos 0) (omega (arith, l, h.followed))))

abbrev IsOther : rows.Row → Type 0
IsOther r = r.letter ≡ N → ⊥

other_rows : (b : Bilevel) → All IsOther (lines_and_numbers b)
other_rows b = all_rows IsOther b (λ i l e. absurd (cc e)) (λ i l e. absurd (cc e)) (λ k l e. absurd (cc e))

others : (b : Bilevel) (bounds end k : ℕ) (r : rows.Row) → slice_get (bilevel_deck b bounds end).rows k ≡ Some r → (k ≡ 0 → ⊥) → (r.letter ≡ N → ⊥)
others b bounds end zero r e ne same = ne refl
others b bounds end (suc k) r e ne same =
    subst IsOther (get_or_from_slice_get (lines_and_numbers b) k r r e) (other_rows b k r (slice_get_within (lines_and_numbers b) k r e)) same

rows_length : (b : Bilevel) → length (lines_and_numbers b) ≡ ups b + lows b + b.ny
rows_length b =
    omega (
      arith,
      length-append (listed (up_row b) (ups b) ++ listed (low_row b) (lows b)) (listed (follow_row b) b.ny),
      length-append (listed (up_row b) (ups b)) (listed (low_row b) (lows b)),
      sized (up_row b) (ups b),
      sized (low_row b) (lows b),
      sized (follow_row b) b.ny,
    )

abbrev both_columns : Bilevel → ℕ → List Column
both_columns b bounds = listed (λ j. free_column (bounds + j)) (variables_of b) ++ listed (λ i. default_column) (lows b)

pub columns_length : (b : Bilevel) (bounds : ℕ) → length (both_columns b bounds) ≡ columns_of b
columns_length b bounds =
    omega (arith, length-append (listed (λ j. free_column (bounds + j)) (variables_of b)) (listed (λ i. default_column) (lows b)), sized (λ j. free_column (bounds + j)) (variables_of b), sized (λ i. default_column) (lows b))

low_there : (b : Bilevel) (bounds end i : ℕ) → i < lows b → slice_get (bilevel_deck b bounds end).rows (1 + ups b + i) ≡ Some (low_row b i)
low_there b bounds end i l =
    ap (slice_get (bilevel_deck b bounds end).rows) (let z : 1 + ups b + i ≡ suc (ups b + i) = omega arith in z)
    ∙ get_first (listed (up_row b) (ups b) ++ listed (low_row b) (lows b)) (listed (follow_row b) b.ny) (ups b + i) (low_row b i)
    (get_second (listed (up_row b) (ups b)) (listed (low_row b) (lows b)) (ups b) i (Some (low_row b i)) (sized (up_row b) (ups b)) (there (low_row b) (lows b) i l))

multiplier_there : (b : Bilevel) (bounds i : ℕ) → i < lows b → slice_get (both_columns b bounds) (variables_of b + i) ≡ Some default_column
multiplier_there b bounds i l =
    get_second (listed (λ j. free_column (bounds + j)) (variables_of b)) (listed (λ i. default_column) (lows b)) (variables_of b) i (Some default_column) (sized (λ j. free_column (bounds + j)) (variables_of b)) (there (λ i. default_column) (lows b) i l)

pair_named : (b : Bilevel) (bounds end i : ℕ) → i < lows b → NamesQuantity (bilevel_deck b bounds end) (bilevel_pair b i).a × NamesQuantity (bilevel_deck b bounds end) (bilevel_pair b i).b
pair_named b bounds end i l = ((low_row b i, low_there b bounds end i l, refl), (default_column, multiplier_there b bounds i l, refl, refl))

pub is_deck : (b : Bilevel) (bounds end : ℕ) → IsBilevel b → IsDeck (bilevel_deck b bounds end)
is_deck b bounds end h =
    let counts = bilevel_counts b.nx b.ny (map terms_of b.up) (map terms_of b.low) in
    let f : AreFew counts = few counts h.few in
    let all = entries_good b h in
    record {
      few_rows = omega (arith, f.rows, rows_length b, length-map b.up terms_of, length-map b.low terms_of);
      few_columns = omega (arith, f.columns, columns_length b bounds, length-map b.low terms_of);
      few_entries = omega (arith, f.entries, length-append (variables b) (multipliers b), variables_length b, multipliers_length b, length-map b.low terms_of);
      few_pairs = omega (arith, f.pairs, sized (bilevel_pair b) (lows b), ap length (append-nil (listed (bilevel_pair b) (lows b))), length-map b.low terms_of);
      objective = (row N 3 (pos 0), refl, refl);
      others = others b bounds end;
      rows = All-cons IsRow (row N 3 (pos 0)) (lines_and_numbers b) (row_kept N 3 (pos 0) refl) (rows_kept b h);
      columns = All-append IsColumn (listed (λ j. free_column (bounds + j)) (variables_of b)) (listed (λ i. default_column) (lows b)) (all_listed IsColumn (λ j. free_column (bounds + j)) (variables_of b) (λ j l. free_kept (bounds + j))) (all_listed IsColumn (λ i. default_column) (lows b) (λ i l. default_kept));
      entries_named = λ i d l. (omega (arith, (all i d l).column, columns_length b bounds), omega (arith, (all i d l).row, rows_length b));
      entry_values = λ i d l. (all i d l).number;
      ascending = λ k. (columns_ascend b k).1;
      pairs_named = all_listed (λ (q : PairLine). NamesQuantity (bilevel_deck b bounds end) q.a × NamesQuantity (bilevel_deck b bounds end) q.b) (bilevel_pair b) (lows b) (pair_named b bounds end);
      groups_named = All-nil (λ g. All (NamesQuantity (bilevel_deck b bounds end)) g.items);
    }

-- ---- its case

rows_narrow : (b : Bilevel) → IsBilevel b → All IsNarrowRow (row N 3 (pos 0) ∷ lines_and_numbers b)
rows_narrow b h =
    All-cons IsNarrowRow (row N 3 (pos 0)) (lines_and_numbers b) (narrow_row N 3 (pos 0) tt refl)
    (all_rows IsNarrowRow b (λ i l. narrow_row G (4 + i) (line_at b.up i).rhs tt (h.up i no_line l).0) (λ i l. narrow_row G (4 + ups b + i) (line_at b.low i).rhs tt (h.low i no_line l).0)
    (λ k l. narrow_row E (4 + ups b + lows b + k) (number_at b.follow k) tt (h.follow_fitting k (pos 0) (omega (arith, l, h.followed)))))

rows_count : (b : Bilevel) (es : List Entry) → length (constraints_of_rows es (enumerate_from 1 (lines_and_numbers b))) ≡ ups b + lows b + b.ny
rows_count b es =
    rows_counted es 1 (lines_and_numbers b)
    (all_rows IsOneRow b (λ i l. one_g (4 + i) (line_at b.up i).rhs) (λ i l. one_g (4 + ups b + i) (line_at b.low i).rhs) (λ k l. one_e (4 + ups b + lows b + k) (number_at b.follow k))) ∙ rows_length b

columns_count : (b : Bilevel) (bounds : ℕ) → length (constraints_of_columns (enumerate_from 0 (both_columns b bounds))) ≡ lows b
columns_count b bounds =
    none_counted 0 (listed (λ j. free_column (bounds + j)) (variables_of b)) (listed (λ i. default_column) (lows b))
    (all_listed (HasSoMany 0) (λ j. free_column (bounds + j)) (variables_of b) (λ j l. none_free (bounds + j))) (all_listed (HasSoMany 1) (λ i. default_column) (lows b) (λ i l. one_default))
    ∙ sized (λ i. default_column) (lows b)

columns_narrow : (b : Bilevel) (bounds : ℕ) → All (λ (c : Column). wide_column c ≡ []) (both_columns b bounds)
columns_narrow b bounds =
    let P : Column → Type 0 = λ c. wide_column c ≡ [] in
    All-append P (listed (λ j. free_column (bounds + j)) (variables_of b)) (listed (λ i. default_column) (lows b))
    (all_listed P (λ j. free_column (bounds + j)) (variables_of b) (λ j l. refl)) (all_listed P (λ i. default_column) (lows b) (λ i l. refl))

pub has_case : (b : Bilevel) (bounds end : ℕ) → IsBilevel b → HasCase (bilevel_deck b bounds end) (case_of_deck (bilevel_deck b bounds end))
has_case b bounds end h =
    let d = bilevel_deck b bounds end in
    let counts = bilevel_counts b.nx b.ny (map terms_of b.up) (map terms_of b.low) in
    let f : AreFew counts = few counts h.few in
    record {
      narrow =
          ap (λ l. l ++ flat_map wide_column d.columns) (no_wide_rows (columns_of b) (rows_of b) d.entries 0 d.rows (entries_good b h) (rows_narrow b h))
          ∙ no_wide_columns d.columns (columns_narrow b bounds);
      few = omega (arith, f.constraints, length-append (row_constraints d) (column_constraints d), rows_count b d.entries, columns_count b bounds, length-map b.up terms_of, length-map b.low terms_of);
      made = refl;
    }

pub scale_is : (b : Bilevel) (bounds end : ℕ) → IsBilevel b → (case_of_deck (bilevel_deck b bounds end)).scale ≡ pos 1
scale_is b bounds end h = ap pos (scale_one (columns_of b) (rows_of b) (bilevel_deck b bounds end).entries (entries_good b h))

pub offset_is : (b : Bilevel) (bounds end : ℕ) → IsBilevel b → (case_of_deck (bilevel_deck b bounds end)).offset ≡ pos 0
offset_is b bounds end h = offset_zero (columns_of b) (rows_of b) (bilevel_deck b bounds end).entries (entries_good b h)
