-- The text of a bilevel problem's deck is that of a printed deck.
use Rattle.std.proofs.Common.{ℕ, suc, ◌+◌, ◌<◌, ◌≤◌, ◌≡◌, false, not, ◌&&◌, cond, eqb, List, [], ◌∷◌, ◌++◌, length, map, refl, sym, ap, subst, ◌∙◌, arith, ℤ, pos}
use Rattle.std.specs.Prelude.{All, codes}
use Rattle.std.specs.Fmt.{decimal}
use Rattle.std.specs.List.{AllByRecursion, flat_map, list_all, range_with_len}
use Rattle.std.proofs.lemmas.Bool.{and_parts, eqb-true, not-false}
use Rattle.std.proofs.lemmas.Grind.{flat_map-append}
use Rattle.std.proofs.lemmas.List.{append-nil, get_or-append-add, get_or_append_left, length-append, length-map, map-append}
use Rattle.std.proofs.lemmas.List.Elements.{All-append, All-cons, recursion_from_All}
use Rattle.std.proofs.lemmas.List.FromFn.{length-map-range_with_len}
use Rattle.deck_gen.specs.Generator.{joined}
use Rattle.mps_lex.specs.Kinds.{Name}
use Rattle.decks.specs.Bounds.{default_column}
use Rattle.decks.specs.Decks.{IsDeck}
use Rattle.decks.specs.declared.deck.Entry.{Entry}
use Rattle.decks.specs.declared.deck.Letter.TheVariants.{N, E, G}
use Rattle.decks.specs.Names.{has}
use Rattle.decks.specs.Texts.{Spells}
use Rattle.decks.proofs.KeptParts.{all_append}
use Rattle.front_text.specs.declared.problem.Bilevel.{Bilevel}
use Rattle.front_text.specs.declared.problem.Line.{Line}
use Rattle.front_text.specs.Problems.{Fits, IsBilevel, IsLine, bilevel_counts, coefficient_at, terms_of}
use Rattle.kkt_front.specs.Decks.{bilevel_deck, block, entry, follow_row, listed, low_row, lows, multiplier_entries, row, up_row, ups, variable_entries}
use Rattle.kkt_front.specs.DeckTexts.{bilevel_bounds, bilevel_columns, bilevel_pairs, bilevel_rights, bilevel_rows, bilevel_text, follow_right, has_no_rights, has_zero, is_zero, line_at, line_entry, line_right, multiplier_column, multiplier_entry, no_line, number_at, numbered_line, pair_line, right_lines, variable_column}
use Rattle.front_case.proofs.BilevelDeck.{is_deck}
use Rattle.front_case.proofs.Keeping.{AreFew, all_block, few}
use Rattle.front_case.proofs.Lists.{all_flat}
use Rattle.front_case.proofs.Numbers.{coefficient_fits}
use Rattle.deck_print.specs.Printed.{AreColumnsFrom, AreDistinct, AreRowsFrom, FollowColumns, IsNoMarker, IsOther, IsPrinted, IsWhole, IsWord, NamedColumn, NamedRow, all_pairs_words, behind_rights, bound_words, bounds_words, column_name, column_names, column_of, data_text, end_of, entries_words, entry_words, line_text, lines_of_section, name_at, numbered_name, pair_of, printed_deck, printed_text, right_words, rights_words, row_name, row_names, row_of, row_words, rows_words, section_text}
use Rattle.deck_print.proofs.NumberedNames.{numbered_word}
use Rattle.deck_print.proofs.Whole.{is_spelled}
use Rattle.front_deck.specs.Printed.{bilevel_pair_of, bilevel_printed, follow_named_row, low_named_row, multiplier_named_column, up_named_row, variable_named_column}
use Rattle.front_deck.proofs.Listed.{IsBlock, at_number, each_listed, follow_all, mapped, rows_and, rows_from}
use Rattle.front_deck.proofs.Numbered.{AreNotIn, distinct_and, distinct_names, names, not_in_both, other_letter}
use Rattle.front_deck.proofs.Parts.{block_joined, bounds_joined, columns_joined, cost_is, entries_data, entries_text, entry_text, frees_from, left_out, none_made, one_entry, pair_text, pairs_joined, passes_at, right_nothing, right_text, rights_joined, row_on, rows_joined, whole_of}
use Rattle.front_deck.proofs.Texts.{behind_six, behind_three, behind_two, data_and, datas_and}

-- the bounds' first line does not matter in what follows, as far as the deck's lines are not counted
abbrev variables_of : Bilevel → ℕ
variables_of b = b.nx + b.ny

abbrev ups_named : Bilevel → List NamedRow
ups_named b = listed (up_named_row b) (ups b)

abbrev lows_named : Bilevel → List NamedRow
lows_named b = listed (low_named_row b) (lows b)

abbrev follows_named : Bilevel → List NamedRow
follows_named b = listed (follow_named_row b) b.ny

abbrev others_of : Bilevel → List NamedRow
others_of b = ups_named b ++ lows_named b ++ follows_named b

abbrev variables : Bilevel → ℕ → List NamedColumn
variables b bounds = listed (variable_named_column bounds) (variables_of b)

abbrev multipliers : Bilevel → List NamedColumn
multipliers b = listed multiplier_named_column (lows b)

-- ---- names

abbrev row_names_of : Bilevel → List Name
row_names_of b = names 117 (ups b) ++ names 108 (lows b) ++ names 115 b.ny

abbrev column_names_of : Bilevel → List Name
column_names_of b = names 118 (variables_of b) ++ names 109 (lows b)

abbrev rs : Bilevel → List Name
rs b = row_names (bilevel_printed b 0)

abbrev cs : Bilevel → ℕ → List Name
cs b bounds = column_names (bilevel_printed b bounds)

rows_are : (b : Bilevel) → rs b ≡ codes "cost" ∷ row_names_of b
rows_are b =
    ap (λ t. codes "cost" ∷ t)
    (map-append row_name (ups_named b ++ lows_named b) (follows_named b) ∙ ap (λ t. t ++ map row_name (follows_named b)) (map-append row_name (ups_named b) (lows_named b))
    ∙ (λ i. mapped row_name (up_named_row b) (ups b) i ++ mapped row_name (low_named_row b) (lows b) i ++ mapped row_name (follow_named_row b) b.ny i))

columns_are : (b : Bilevel) (bounds : ℕ) → cs b bounds ≡ column_names_of b
columns_are b bounds = map-append column_name (variables b bounds) (multipliers b) ∙ (λ i. mapped column_name (variable_named_column bounds) (variables_of b) i ++ mapped column_name multiplier_named_column (lows b) i)

count : (c n : ℕ) → length (names c n) ≡ n
count c n = length-map-range_with_len (numbered_name c) 0 n

-- the name of a row behind the objective
row_name_at : (b : Bilevel) (i k : ℕ) → i ≡ suc k → name_at (rs b) i ≡ name_at (row_names_of b) k
row_name_at b i k e = ap (λ t. name_at t i) (rows_are b) ∙ ap (name_at (codes "cost" ∷ row_names_of b)) e

up_at : (b : Bilevel) (i : ℕ) → i < ups b → name_at (rs b) (1 + i) ≡ numbered_name 117 i
up_at b i l =
    let us = names 117 (ups b) in
    let ls = names 108 (lows b) in
    row_name_at b (1 + i) i (omega arith) ∙ get_or_append_left (us ++ ls) (names 115 b.ny) [] i (omega (arith, l, length-append us ls, count 117 (ups b)))
    ∙ get_or_append_left us ls [] i (omega (arith, l, count 117 (ups b))) ∙ at_number (numbered_name 117) (ups b) i [] l

low_at : (b : Bilevel) (i : ℕ) → i < lows b → name_at (rs b) (1 + ups b + i) ≡ numbered_name 108 i
low_at b i l =
    let us = names 117 (ups b) in
    let ls = names 108 (lows b) in
    row_name_at b (1 + ups b + i) (ups b + i) (omega arith) ∙ get_or_append_left (us ++ ls) (names 115 b.ny) [] (ups b + i) (omega (arith, l, length-append us ls, count 117 (ups b), count 108 (lows b)))
    ∙ ap (λ k. name_at (us ++ ls) (k + i)) (sym (count 117 (ups b))) ∙ get_or-append-add us ls i [] ∙ at_number (numbered_name 108) (lows b) i [] l

follow_at : (b : Bilevel) (k : ℕ) → k < b.ny → name_at (rs b) (1 + ups b + lows b + k) ≡ numbered_name 115 k
follow_at b k l =
    let both = names 117 (ups b) ++ names 108 (lows b) in
    let long : ups b + lows b ≡ length both = omega (arith, length-append (names 117 (ups b)) (names 108 (lows b)), count 117 (ups b), count 108 (lows b)) in
    row_name_at b (1 + ups b + lows b + k) (ups b + lows b + k) (omega arith) ∙ ap (λ m. name_at (both ++ names 115 b.ny) (m + k)) long ∙ get_or-append-add both (names 115 b.ny) k []
    ∙ at_number (numbered_name 115) b.ny k [] l

variable_at : (b : Bilevel) (bounds j : ℕ) → j < variables_of b → name_at (cs b bounds) j ≡ numbered_name 118 j
variable_at b bounds j l =
    ap (λ t. name_at t j) (columns_are b bounds) ∙ get_or_append_left (names 118 (variables_of b)) (names 109 (lows b)) [] j (omega (arith, l, count 118 (variables_of b))) ∙ at_number (numbered_name 118) (variables_of b) j [] l

multiplier_at : (b : Bilevel) (bounds i : ℕ) → i < lows b → name_at (cs b bounds) (variables_of b + i) ≡ numbered_name 109 i
multiplier_at b bounds i l =
    let vs = names 118 (variables_of b) in
    ap (λ t. name_at t (variables_of b + i)) (columns_are b bounds) ∙ ap (λ k. name_at (vs ++ names 109 (lows b)) (k + i)) (sym (count 118 (variables_of b))) ∙ get_or-append-add vs (names 109 (lows b)) i []
    ∙ at_number (numbered_name 109) (lows b) i [] l

-- ---- the text

rows_text : (b : Bilevel) (bounds : ℕ) → bilevel_rows b ≡ codes "ROWS\n" ++ data_text (rows_words (bilevel_printed b bounds))
rows_text b bounds =
    (λ i.
    ((codes "ROWS\n N cost\n" ++ rows_joined (up_named_row b) (numbered_line (codes " G u")) (ups b) (λ k l. refl) i) ++ rows_joined (low_named_row b) (numbered_line (codes " G l")) (lows b) (λ k l. refl) i)
    ++ rows_joined (follow_named_row b) (numbered_line (codes " E s")) b.ny (λ k l. refl) i)
    ∙ behind_three (codes "ROWS\n N cost\n") (data_text (map row_words (ups_named b))) (data_text (map row_words (lows_named b))) (data_text (map row_words (follows_named b)))
    ∙ ap (λ t. codes "ROWS\n N cost\n" ++ t)
    (ap (λ t. t ++ data_text (map row_words (follows_named b))) (sym (data_and row_words (ups_named b) (lows_named b))) ∙ sym (data_and row_words (ups_named b ++ lows_named b) (follows_named b)))

abbrev coefficients : List Line → ℕ → ℕ → ℤ
coefficients lines j i = coefficient_at (line_at lines i).terms j

-- the entries of a variable in lines, of which the first has the row of this number and the rows have this letter
lines_text : (b : Bilevel) (bounds c : ℕ) (lines : List Line) (j first : ℕ) → j < variables_of b → ((i : ℕ) → i < length lines → name_at (rs b) (first + i) ≡ numbered_name c i)
    → joined (line_entry (32 ∷ c ∷ []) lines j) (length lines) ≡ entries_text (rs b) (cs b bounds) (block j first (coefficients lines j) (length lines))
lines_text b bounds c lines j first l names_are =
    block_joined (rs b) (cs b bounds) (line_entry (32 ∷ c ∷ []) lines j) j first (coefficients lines j) (length lines)
    (λ i li. ap (λ t. cond (is_zero (coefficients lines j i)) [] t) (one_entry (rs b) (cs b bounds) (numbered_name 118 j) (numbered_name c i) j (first + i) (coefficients lines j i) (variable_at b bounds j l) (names_are i li)))

variable_text : (b : Bilevel) (bounds j : ℕ) → j < variables_of b → variable_column b j ≡ entries_text (rs b) (cs b bounds) (variable_entries b j)
variable_text b bounds j l =
    (λ i.
    (one_entry (rs b) (cs b bounds) (numbered_name 118 j) (codes "cost") j 0 (number_at b.cost j) (variable_at b bounds j l) refl i ++ lines_text b bounds 117 b.up j 1 l (up_at b) i)
    ++ lines_text b bounds 108 b.low j (1 + ups b) l (low_at b) i)
    ∙ sym (flat_map-append (entry_text (rs b) (cs b bounds)) (entry j 0 (number_at b.cost j) ∷ block j 1 (coefficients b.up j) (ups b)) (block j (1 + ups b) (coefficients b.low j) (lows b)))

multiplier_text : (b : Bilevel) (bounds i : ℕ) → i < lows b → multiplier_column b i ≡ entries_text (rs b) (cs b bounds) (multiplier_entries b i)
multiplier_text b bounds i l =
    let j = variables_of b + i in
    let v : ℕ → ℤ = λ k. coefficient_at (line_at b.low i).terms (b.nx + k) in
    let first = 1 + ups b + lows b in
    λ n. one_entry (rs b) (cs b bounds) (numbered_name 109 i) (codes "cost") j 0 (pos 0) (multiplier_at b bounds i l) refl n
    ++ block_joined (rs b) (cs b bounds) (multiplier_entry b i) j first v b.ny
    (λ k lk. ap (λ t. cond (is_zero (v k)) [] t) (one_entry (rs b) (cs b bounds) (numbered_name 109 i) (numbered_name 115 k) j (first + k) (v k) (multiplier_at b bounds i l) (follow_at b k lk))) n

columns_text : (b : Bilevel) (bounds : ℕ) → bilevel_columns b ≡ codes "COLUMNS\n" ++ data_text (entries_words (bilevel_printed b bounds))
columns_text b bounds =
    let xs = flat_map (variable_entries b) (range_with_len 0 (variables_of b)) in
    let ys = flat_map (multiplier_entries b) (range_with_len 0 (lows b)) in
    behind_two (codes "COLUMNS\n") (joined (variable_column b) (variables_of b)) (joined (multiplier_column b) (lows b))
    ∙ ap (λ t. codes "COLUMNS\n" ++ t)
    ((λ i. columns_joined (rs b) (cs b bounds) (variable_entries b) (variable_column b) (variables_of b) (variable_text b bounds) i ++ columns_joined (rs b) (cs b bounds) (multiplier_entries b) (multiplier_column b) (lows b) (multiplier_text b bounds) i)
    ∙ sym (flat_map-append (entry_text (rs b) (cs b bounds)) xs ys) ∙ entries_data (rs b) (cs b bounds) (xs ++ ys))

rights_text : (b : Bilevel) (bounds : ℕ) → bilevel_rights b ≡ section_text (not (has_no_rights b)) (codes "RHS\n") (rights_words (bilevel_printed b bounds))
rights_text b bounds =
    left_out (has_no_rights b) (right_lines b) (codes "RHS\n" ++ data_text (rights_words (bilevel_printed b bounds)))
    ((λ i.
    ((codes "RHS\n" ++ rights_joined (up_named_row b) (line_right (codes " rhs u") b.up) (ups b) (λ k l. right_text 117 k G (4 + k) (line_at b.up k).rhs) i)
    ++ rights_joined (low_named_row b) (line_right (codes " rhs l") b.low) (lows b) (λ k l. right_text 108 k G (4 + ups b + k) (line_at b.low k).rhs) i)
    ++ rights_joined (follow_named_row b) (follow_right b) b.ny (λ k l. right_text 115 k E (4 + ups b + lows b + k) (number_at b.follow k)) i)
    ∙ behind_three (codes "RHS\n") (data_text (flat_map right_words (ups_named b))) (data_text (flat_map right_words (lows_named b))) (data_text (flat_map right_words (follows_named b)))
    ∙ ap (λ t. codes "RHS\n" ++ t)
    (ap (λ t. t ++ data_text (flat_map right_words (follows_named b))) (sym (datas_and right_words (ups_named b) (lows_named b))) ∙ sym (datas_and right_words (ups_named b ++ lows_named b) (follows_named b))))

no_multiplier_lines : (b : Bilevel) → flat_map bound_words (multipliers b) ≡ []
no_multiplier_lines b = none_made bound_words (multipliers b) (each_listed (λ c. bound_words c ≡ []) multiplier_named_column (lows b) (λ i l. refl))

bounds_text : (b : Bilevel) (bounds : ℕ) → bilevel_bounds b ≡ codes "BOUNDS\n" ++ data_text (bounds_words (bilevel_printed b bounds))
bounds_text b bounds =
    ap (λ t. codes "BOUNDS\n" ++ t)
    (bounds_joined (variable_named_column bounds) (numbered_line (codes " FR bnd v")) (variables_of b) (λ j l. sym (append-nil (line_text (codes "FR" ∷ codes "bnd" ∷ numbered_name 118 j ∷ []))))
    ∙ sym (append-nil (data_text (flat_map bound_words (variables b bounds))))
    ∙ ap (λ t. data_text (flat_map bound_words (variables b bounds)) ++ data_text t) (sym (no_multiplier_lines b))
    ∙ sym (datas_and bound_words (variables b bounds) (multipliers b)))

pairs_text : (b : Bilevel) (bounds : ℕ) → bilevel_pairs b ≡ section_text (not (eqb (length b.low) 0)) (codes "PAIRS\n") (all_pairs_words (bilevel_printed b bounds))
pairs_text b bounds =
    left_out (eqb (length b.low) 0) (codes "PAIRS\n" ++ joined (pair_line (codes " ROW l") (codes " COL m")) (lows b)) (codes "PAIRS\n" ++ data_text (all_pairs_words (bilevel_printed b bounds)))
    (ap (λ t. codes "PAIRS\n" ++ t)
    (pairs_joined (rs b) (cs b bounds) (bilevel_pair_of b) (pair_line (codes " ROW l") (codes " COL m")) (lows b) (λ i l. pair_text (rs b) (cs b bounds) 108 109 i (bilevel_pair_of b i) (low_at b i l) (multiplier_at b bounds i l))))

pub text_is : (b : Bilevel) (bounds : ℕ) → bilevel_text b ≡ printed_text (bilevel_printed b bounds)
text_is b bounds =
    behind_six (codes "NAME bilevel\n") (bilevel_rows b) (bilevel_columns b) (bilevel_rights b) (bilevel_bounds b) (bilevel_pairs b) (codes "ENDATA\n")
    ∙ (λ i. codes "NAME bilevel\n" ++ (rows_text b bounds i ++ (columns_text b bounds i ++ (rights_text b bounds i ++ (bounds_text b bounds i ++ (pairs_text b bounds i ++ codes "ENDATA\n"))))))

-- ---- the deck

rows_again : (b : Bilevel) → map row_of (others_of b) ≡ listed (up_row b) (ups b) ++ listed (low_row b) (lows b) ++ listed (follow_row b) b.ny
rows_again b =
    map-append row_of (ups_named b ++ lows_named b) (follows_named b) ∙ ap (λ t. t ++ map row_of (follows_named b)) (map-append row_of (ups_named b) (lows_named b))
    ∙ (λ i. mapped row_of (up_named_row b) (ups b) i ++ mapped row_of (low_named_row b) (lows b) i ++ mapped row_of (follow_named_row b) b.ny i)

columns_again : (b : Bilevel) (bounds end : ℕ) → map column_of (variables b bounds ++ multipliers b) ≡ (bilevel_deck b bounds end).columns
columns_again b bounds end = map-append column_of (variables b bounds) (multipliers b) ∙ (λ i. mapped column_of (variable_named_column bounds) (variables_of b) i ++ mapped column_of multiplier_named_column (lows b) i)

pub deck_is : (b : Bilevel) (bounds end : ℕ) → printed_deck (bilevel_printed b bounds) end ≡ bilevel_deck b bounds end
deck_is b bounds end = λ i. record (bilevel_deck b bounds end) {
  rows = row N 3 (pos 0) ∷ rows_again b i;
  columns = columns_again b bounds end i;
  pairs = mapped pair_of (bilevel_pair_of b) (lows b) i;
}

-- ---- what the parts keep

record AreSmall (b : Bilevel) : Type 0 where
  pub ups : ups b ≤ 2000
  pub lows : lows b ≤ 2000
  pub follow : b.ny ≤ 2000
  pub variables : variables_of b ≤ 1000

small : (b : Bilevel) → IsBilevel b → AreSmall b
small b h =
    let counts = bilevel_counts b.nx b.ny (map terms_of b.up) (map terms_of b.low) in
    let f : AreFew counts = few counts h.few in
    let up : length (map terms_of b.up) ≡ length b.up = length-map b.up terms_of in
    let low : length (map terms_of b.low) ≡ length b.low = length-map b.low terms_of in
    record { ups = omega (arith, f.rows, up); lows = omega (arith, f.rows, low); follow = omega (arith, f.rows); variables = omega (arith, f.columns) }

-- rows and columns of the three, and the two, kinds
each_other : (P : NamedRow → Type 0) (b : Bilevel) → ((i : ℕ) → i < ups b → P (up_named_row b i)) → ((i : ℕ) → i < lows b → P (low_named_row b i)) → ((k : ℕ) → k < b.ny → P (follow_named_row b k)) → AllByRecursion P (others_of b)
each_other P b u l f =
    all_append P (ups_named b ++ lows_named b) (follows_named b) (all_append P (ups_named b) (lows_named b) (each_listed P (up_named_row b) (ups b) u) (each_listed P (low_named_row b) (lows b) l)) (each_listed P (follow_named_row b) b.ny f)

row_words_are : (b : Bilevel) → AreSmall b → AllByRecursion IsWord (row_names_of b)
row_words_are b s =
    all_append IsWord (names 117 (ups b) ++ names 108 (lows b)) (names 115 b.ny)
    (all_append IsWord (names 117 (ups b)) (names 108 (lows b)) (each_listed IsWord (numbered_name 117) (ups b) (λ i l. numbered_word 117 i (omega arith) (omega (arith, l, s.ups))))
    (each_listed IsWord (numbered_name 108) (lows b) (λ i l. numbered_word 108 i (omega arith) (omega (arith, l, s.lows)))))
    (each_listed IsWord (numbered_name 115) b.ny (λ i l. numbered_word 115 i (omega arith) (omega (arith, l, s.follow))))

column_words_are : (b : Bilevel) → AreSmall b → AllByRecursion IsWord (column_names_of b)
column_words_are b s =
    all_append IsWord (names 118 (variables_of b)) (names 109 (lows b)) (each_listed IsWord (numbered_name 118) (variables_of b) (λ i l. numbered_word 118 i (omega arith) (omega (arith, l, s.variables))))
    (each_listed IsWord (numbered_name 109) (lows b) (λ i l. numbered_word 109 i (omega arith) (omega (arith, l, s.lows))))

-- names of one letter are not among those of another
letters_apart : (c d m n : ℕ) → eqb d c ≡ false → AreNotIn (names c m) (names d n)
letters_apart c d m n e = each_listed (λ k. has (names c m) k ≡ false) (numbered_name d) n (λ i l. other_letter c d m (decimal (i + 1)) e)

distinct_rows : (b : Bilevel) → AreSmall b → AreDistinct (codes "cost" ∷ row_names_of b)
distinct_rows b s =
    let us = names 117 (ups b) in
    let ls = names 108 (lows b) in
    let fs = names 115 b.ny in (
      not_in_both (us ++ ls) fs (codes "cost") (not_in_both us ls (codes "cost") (other_letter 117 99 (ups b) (codes "ost") refl) (other_letter 108 99 (lows b) (codes "ost") refl)) (other_letter 115 99 b.ny (codes "ost") refl),
      distinct_and (us ++ ls) fs
          (distinct_and us ls (distinct_names 117 (ups b) (omega (arith, s.ups))) (distinct_names 108 (lows b) (omega (arith, s.lows))) (letters_apart 108 117 (lows b) (ups b) refl))
          (distinct_names 115 b.ny (omega (arith, s.follow)))
          (all_append (λ k. has fs k ≡ false) us ls (letters_apart 115 117 b.ny (ups b) refl) (letters_apart 115 108 b.ny (lows b) refl)),
    )

distinct_columns : (b : Bilevel) → AreSmall b → AreDistinct (column_names_of b)
distinct_columns b s =
    distinct_and (names 118 (variables_of b)) (names 109 (lows b)) (distinct_names 118 (variables_of b) (omega (arith, s.variables))) (distinct_names 109 (lows b) (omega (arith, s.lows)))
    (letters_apart 109 118 (lows b) (variables_of b) refl)

rows_stand : (b : Bilevel) → IsBilevel b → AreRowsFrom 4 (others_of b)
rows_stand b h =
    let up : length (ups_named b) ≡ ups b = length-map-range_with_len (up_named_row b) 0 (ups b) in
    let low : length (lows_named b) ≡ lows b = length-map-range_with_len (low_named_row b) 0 (lows b) in
    let us = rows_from (up_named_row b) 4 (ups b) (λ i l. row_on G (4 + i) (line_at b.up i).rhs (h.up i no_line l).0) in
    let ls = rows_from (low_named_row b) (4 + ups b) (lows b) (λ i l. row_on G (4 + ups b + i) (line_at b.low i).rhs (h.low i no_line l).0) in
    let fs = rows_from (follow_named_row b) (4 + ups b + lows b) b.ny (λ k l. row_on E (4 + ups b + lows b + k) (number_at b.follow k) (h.follow_fitting k (pos 0) (omega (arith, l, h.followed)))) in
    rows_and 4 (ups_named b ++ lows_named b) (follows_named b)
    (rows_and 4 (ups_named b) (lows_named b) us (subst (λ n. AreRowsFrom n (lows_named b)) (let z : 4 + ups b ≡ 4 + length (ups_named b) = omega (arith, up) in z) ls))
    (subst (λ n. AreRowsFrom n (follows_named b)) (let z : 4 + ups b + lows b ≡ 4 + length (ups_named b ++ lows_named b) = omega (arith, up, low, length-append (ups_named b) (lows_named b)) in z) fs)

-- ---- entries

abbrev IsWholeEntry : Entry → Type 0
IsWholeEntry e = IsWhole e.value

line_fits : (b : Bilevel) (lines : List Line) (i j : ℕ) → All (IsLine (variables_of b)) lines → i < length lines → Fits (coefficients lines j i)
line_fits b lines i j h l = coefficient_fits 0 (variables_of b) (line_at lines i).terms j (h i no_line l).1

variable_whole : (b : Bilevel) (j : ℕ) → IsBilevel b → j < variables_of b → All IsWholeEntry (variable_entries b j)
variable_whole b j h l =
    let us = block j 1 (coefficients b.up j) (ups b) in
    let ls = block j (1 + ups b) (coefficients b.low j) (lows b) in
    All-cons IsWholeEntry (entry j 0 (number_at b.cost j)) (us ++ ls) (whole_of (number_at b.cost j) (h.fitting j (pos 0) (omega (arith, l, h.costs))))
    (All-append IsWholeEntry us ls (all_block IsWholeEntry j 1 (coefficients b.up j) (ups b) (λ i li. whole_of (coefficients b.up j i) (line_fits b b.up i j h.up li)))
    (all_block IsWholeEntry j (1 + ups b) (coefficients b.low j) (lows b) (λ i li. whole_of (coefficients b.low j i) (line_fits b b.low i j h.low li))))

abbrev follow_coefficients : Bilevel → ℕ → ℕ → ℤ
follow_coefficients b i k = coefficient_at (line_at b.low i).terms (b.nx + k)

multiplier_whole : (b : Bilevel) (i : ℕ) → IsBilevel b → i < lows b → All IsWholeEntry (multiplier_entries b i)
multiplier_whole b i h l =
    let j = variables_of b + i in
    let first = 1 + ups b + lows b in
    All-cons IsWholeEntry (entry j 0 (pos 0)) (block j first (follow_coefficients b i) b.ny) (whole_of (pos 0) refl)
    (all_block IsWholeEntry j first (follow_coefficients b i) b.ny (λ k lk. whole_of (follow_coefficients b i k) (line_fits b b.low i (b.nx + k) h.low l)))

abbrev all_variables : Bilevel → List Entry
all_variables b = flat_map (variable_entries b) (range_with_len 0 (variables_of b))

abbrev all_multipliers : Bilevel → List Entry
all_multipliers b = flat_map (multiplier_entries b) (range_with_len 0 (lows b))

entries_whole : (b : Bilevel) → IsBilevel b → All IsWholeEntry (all_variables b ++ all_multipliers b)
entries_whole b h =
    All-append IsWholeEntry (all_variables b) (all_multipliers b) (all_flat IsWholeEntry (variable_entries b) 0 (variables_of b) (λ j low high. variable_whole b j h (omega (arith, high))))
    (all_flat IsWholeEntry (multiplier_entries b) 0 (lows b) (λ i low high. multiplier_whole b i h (omega (arith, high))))

variable_block : (b : Bilevel) (j : ℕ) → IsBlock (0 + j) (variable_entries b j)
variable_block b j =
    let P : Entry → Type 0 = λ e. e.column ≡ 0 + j in
    let same : j ≡ 0 + j = omega arith in
    let us = block j 1 (coefficients b.up j) (ups b) in
    let ls = block j (1 + ups b) (coefficients b.low j) (lows b) in
    (same, recursion_from_All P (us ++ ls) (All-append P us ls (all_block P j 1 (coefficients b.up j) (ups b) (λ i l. same)) (all_block P j (1 + ups b) (coefficients b.low j) (lows b) (λ i l. same))))

multiplier_block : (b : Bilevel) (i : ℕ) → IsBlock (variables_of b + i) (multiplier_entries b i)
multiplier_block b i =
    let j = variables_of b + i in
    let P : Entry → Type 0 = λ e. e.column ≡ j in
    (refl, recursion_from_All P (block j (1 + ups b + lows b) (follow_coefficients b i) b.ny) (all_block P j (1 + ups b + lows b) (follow_coefficients b i) b.ny (λ k l. refl)))

order : (b : Bilevel) (bounds : ℕ) → FollowColumns (length (variables b bounds ++ multipliers b)) 0 (all_variables b ++ all_multipliers b)
order b bounds =
    let total = length (variables b bounds ++ multipliers b) in
    let n = variables_of b in
    let all : total ≡ n + lows b =
    omega (arith, length-append (variables b bounds) (multipliers b), length-map-range_with_len (variable_named_column bounds) 0 n, length-map-range_with_len multiplier_named_column 0 (lows b)) in
    let behind : FollowColumns total (n + 0) (all_multipliers b) =
    subst (FollowColumns total (n + 0)) (append-nil (all_multipliers b)) (follow_all total n (multiplier_entries b) 0 (lows b) [] (multiplier_block b) (let z : n + (0 + lows b) ≡ total = omega (arith, all) in z)) in
    follow_all total 0 (variable_entries b) 0 n (all_multipliers b) (variable_block b) (subst (λ k. FollowColumns total k (all_multipliers b)) (let z : n + 0 ≡ 0 + (0 + n) = omega arith in z) behind)

-- ---- sections that are left out

no_rights : (b : Bilevel) (bounds : ℕ) → IsBilevel b → not (has_no_rights b) ≡ false → rights_words (bilevel_printed b bounds) ≡ []
no_rights b bounds h e =
    let p = and_parts (list_all has_zero b.up) (list_all has_zero b.low && list_all is_zero b.follow) (not-false (has_no_rights b) e) in
    let q = and_parts (list_all has_zero b.low) (list_all is_zero b.follow) p.1 in
    none_made right_words (others_of b)
    (each_other (λ r. right_words r ≡ []) b (λ i l. right_nothing (up_named_row b i) (passes_at has_zero b.up i no_line p.0 l)) (λ i l. right_nothing (low_named_row b i) (passes_at has_zero b.low i no_line q.0 l))
    (λ k l. right_nothing (follow_named_row b k) (passes_at is_zero b.follow k (pos 0) q.1 (omega (arith, l, h.followed)))))

no_pairs : (b : Bilevel) → not (eqb (length b.low) 0) ≡ false → listed (bilevel_pair_of b) (lows b) ≡ []
no_pairs b e = ap (listed (bilevel_pair_of b)) (eqb-true (length b.low) 0 (not-false (eqb (length b.low) 0) e))

-- ---- the line at which BOUNDS begin

abbrev pub first_bound : Bilevel → ℕ
first_bound b = behind_rights (bilevel_printed b 0) + 1

first_bound_is : (b : Bilevel) (bounds : ℕ) → first_bound b ≡ behind_rights (bilevel_printed b bounds) + 1
first_bound_is b bounds =
    let es = all_variables b ++ all_multipliers b in
    let same : length (entries_words (bilevel_printed b 0)) ≡ length (entries_words (bilevel_printed b bounds)) = length-map es (entry_words (rs b) (cs b 0)) ∙ sym (length-map es (entry_words (rs b) (cs b bounds))) in
    ap (λ n. 3 + length (rows_words (bilevel_printed b 0)) + 1 + n + lines_of_section (not (has_no_rights b)) (rights_words (bilevel_printed b 0)) + 1) same

columns_stand : (b : Bilevel) → AreColumnsFrom (behind_rights (bilevel_printed b (first_bound b)) + 1) (variables b (first_bound b) ++ multipliers b)
columns_stand b =
    subst (λ n. AreColumnsFrom n (variables b (first_bound b) ++ multipliers b)) (first_bound_is b (first_bound b))
    (frees_from (variable_named_column (first_bound b)) (first_bound b) (variables_of b) (multipliers b) (λ j. refl) (each_listed (λ c. c.1 ≡ default_column) multiplier_named_column (lows b) (λ i l. refl)))

pub is_printed : (b : Bilevel) → IsBilevel b → IsPrinted (bilevel_printed b (first_bound b))
is_printed b h =
    let s = small b h in
    let n = first_bound b in
    record {
      title = (omega arith, (omega arith, (omega arith, (omega arith, (omega arith, (omega arith, (omega arith, tt)))))));
      row_words = subst (AllByRecursion IsWord) (sym (rows_are b)) (cost_is, row_words_are b s);
      column_words = subst (AllByRecursion IsWord) (sym (columns_are b n)) (column_words_are b s);
      row_names = subst AreDistinct (sym (rows_are b)) (distinct_rows b s);
      column_names = subst AreDistinct (sym (columns_are b n)) (distinct_columns b s);
      no_markers = (refl, each_other IsNoMarker b (λ i l. refl) (λ i l. refl) (λ k l. refl));
      objective = refl;
      others = each_other IsOther b (λ i l. refl) (λ i l. refl) (λ k l. refl);
      rows = (row_on N 3 (pos 0) refl, rows_stand b h);
      columns = columns_stand b;
      entries = recursion_from_All IsWholeEntry (all_variables b ++ all_multipliers b) (entries_whole b h);
      order = order b n;
      rights = no_rights b n h;
      bounds = λ e. absurd (cc e);
      pairs = no_pairs b;
    }

pub spelled : (b : Bilevel) → IsBilevel b → (bounds : ℕ) × (end : ℕ) × Spells (bilevel_text b) (bilevel_deck b bounds end) (length (bilevel_text b))
spelled b h =
    let bounds = first_bound b in
    let p = bilevel_printed b bounds in
    let end = end_of p in
    let deck : IsDeck (printed_deck p end) = subst IsDeck (sym (deck_is b bounds end)) (is_deck b bounds end h) in
    let all = is_spelled p (is_printed b h) deck in
    (bounds, end, subst (λ t. Spells t (bilevel_deck b bounds end) (length t)) (sym (text_is b bounds)) (subst (λ d. Spells (printed_text p) d (length (printed_text p))) (deck_is b bounds end) all))
