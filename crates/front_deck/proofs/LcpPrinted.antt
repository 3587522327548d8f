-- The text of a complementarity problem's deck is that of a printed deck.
use Rattle.std.proofs.Common.{ℕ, zero, suc, ◌+◌, ◌<◌, ◌≤◌, ◌≡◌, false, not, cond, List, [], ◌∷◌, ◌++◌, length, map, refl, sym, ap, subst, ◌∙◌, arith, ℤ, pos, negsuc, neg_ℤ}
use Rattle.std.specs.Prelude.{All, codes}
use Rattle.std.specs.List.{AllByRecursion, flat_map, list_all, range_with_len}
use Rattle.std.proofs.lemmas.Bool.{not-false}
use Rattle.std.proofs.lemmas.List.{append-nil}
use Rattle.std.proofs.lemmas.List.Elements.{All-cons, recursion_from_All}
use Rattle.std.proofs.lemmas.List.FromFn.{length-map-range_with_len}
use Rattle.deck_gen.specs.Generator.{joined}
use Rattle.mps_lex.specs.Kinds.{Name}
use Rattle.decks.specs.Bounds.{default_column}
use Rattle.decks.specs.Decks.{IsDeck}
use Rattle.decks.specs.declared.deck.Entry.{Entry}
use Rattle.decks.specs.declared.deck.Letter.TheVariants.{N, G}
use Rattle.decks.specs.Texts.{Spells}
use Rattle.front_text.specs.declared.problem.Lcp.{Lcp}
use Rattle.front_text.specs.Problems.{Fits, IsLcp, coefficient_at, lcp_counts}
use Rattle.kkt_front.specs.Decks.{block, entry, lcp_deck, lcp_entries, listed, row}
use Rattle.kkt_front.specs.DeckTexts.{is_zero, lcp_column, lcp_columns, lcp_entry, lcp_pairs, lcp_right, lcp_rights, lcp_rows, lcp_text, number_at, numbered_line, pair_line, row_of as terms_of_row}
use Rattle.front_case.proofs.Keeping.{AreFew, all_block, few}
use Rattle.front_case.proofs.LcpDeck.{is_deck}
use Rattle.front_case.proofs.Lists.{all_flat}
use Rattle.front_case.proofs.Numbers.{coefficient_fits}
use Rattle.deck_print.specs.Printed.{AreDistinct, FollowColumns, IsNoMarker, IsOther, IsPrinted, IsWhole, IsWord, all_pairs_words, behind_rights, bound_words, column_name, column_names, column_of, data_text, end_of, entries_words, entry_words, line_text, name_at, numbered_name, pair_of, printed_deck, printed_text, right_words, rights_words, row_name, row_names, row_of, rows_words, section_text}
use Rattle.deck_print.proofs.NumberedNames.{numbered_word}
use Rattle.deck_print.proofs.Whole.{is_spelled}
use Rattle.front_deck.specs.Printed.{lcp_named_column, lcp_named_row, lcp_pair_of, lcp_printed}
use Rattle.front_deck.proofs.Listed.{IsBlock, each_listed, follow_all, mapped, rows_from}
use Rattle.front_deck.proofs.Numbered.{distinct_names, names, other_letter}
use Rattle.front_deck.proofs.Parts.{all_default, block_joined, columns_joined, cost_is, entries_data, entries_text, left_out, name_behind, name_listed, neg_zero, none_made, one_entry, pair_text, pairs_joined, passes_at, right_nothing, right_text, rights_joined, row_on, rows_joined, whole_of}
use Rattle.front_deck.proofs.Texts.{behind_five}

abbrev rs : Lcp → List Name
rs p = row_names (lcp_printed p)

abbrev cs : Lcp → List Name
cs p = column_names (lcp_printed p)

abbrev w : ℕ → Name
w i = numbered_name 119 i

abbrev z : ℕ → Name
z j = numbered_name 122 j

rows_are : (p : Lcp) → rs p ≡ codes "cost" ∷ names 119 p.size
rows_are p = ap (λ t. codes "cost" ∷ t) (mapped row_name (lcp_named_row p) p.size)

columns_are : (p : Lcp) → cs p ≡ names 122 p.size
columns_are p = mapped column_name lcp_named_column p.size

row_at : (p : Lcp) (i : ℕ) → i < p.size → name_at (rs p) (1 + i) ≡ w i
row_at p i l = name_behind (codes "cost") (map row_name (listed (lcp_named_row p) p.size)) i ∙ name_listed row_name (lcp_named_row p) p.size i l

column_at : (p : Lcp) (j : ℕ) → j < p.size → name_at (cs p) j ≡ z j
column_at p j l = name_listed column_name lcp_named_column p.size j l

-- ---- the text

rows_text : (p : Lcp) → lcp_rows p ≡ codes "ROWS\n" ++ data_text (rows_words (lcp_printed p))
rows_text p = ap (λ t. codes "ROWS\n N cost\n" ++ t) (rows_joined (lcp_named_row p) (numbered_line (codes " G w")) p.size (λ i l. refl))

abbrev coefficients : Lcp → ℕ → ℕ → ℤ
coefficients p j i = coefficient_at (terms_of_row p i) j

entry_line_is : (p : Lcp) (j i : ℕ) → j < p.size → i < p.size → lcp_entry p j i ≡ cond (is_zero (coefficients p j i)) [] (line_text (entry_words (rs p) (cs p) (entry j (1 + i) (coefficients p j i))))
entry_line_is p j i lj li = ap (λ t. cond (is_zero (coefficients p j i)) [] t) (one_entry (rs p) (cs p) (z j) (w i) j (1 + i) (coefficients p j i) (column_at p j lj) (row_at p i li))

column_text : (p : Lcp) (j : ℕ) → j < p.size → lcp_column p j ≡ entries_text (rs p) (cs p) (lcp_entries p j)
column_text p j l = λ k. one_entry (rs p) (cs p) (z j) (codes "cost") j 0 (pos 0) (column_at p j l) refl k ++ block_joined (rs p) (cs p) (lcp_entry p j) j 1 (coefficients p j) p.size (λ i li. entry_line_is p j i l li) k

columns_text : (p : Lcp) → lcp_columns p ≡ codes "COLUMNS\n" ++ data_text (entries_words (lcp_printed p))
columns_text p = ap (λ t. codes "COLUMNS\n" ++ t) (columns_joined (rs p) (cs p) (lcp_entries p) (lcp_column p) p.size (column_text p) ∙ entries_data (rs p) (cs p) (flat_map (lcp_entries p) (range_with_len 0 p.size)))

rights_text : (p : Lcp) → lcp_rights p ≡ section_text (not (list_all is_zero p.q)) (codes "RHS\n") (rights_words (lcp_printed p))
rights_text p =
    left_out (list_all is_zero p.q) (codes "RHS\n" ++ joined (lcp_right p) p.size) (codes "RHS\n" ++ data_text (rights_words (lcp_printed p)))
    (ap (λ t. codes "RHS\n" ++ t) (rights_joined (lcp_named_row p) (lcp_right p) p.size (λ i l. right_text 119 i G (4 + i) (neg_ℤ (number_at p.q i)))))

pairs_text : (p : Lcp) → lcp_pairs p ≡ codes "PAIRS\n" ++ data_text (all_pairs_words (lcp_printed p))
pairs_text p = ap (λ t. codes "PAIRS\n" ++ t) (pairs_joined (rs p) (cs p) lcp_pair_of (pair_line (codes " ROW w") (codes " COL z")) p.size (λ i l. pair_text (rs p) (cs p) 119 122 i (lcp_pair_of i) (row_at p i l) (column_at p i l)))

pub text_is : (p : Lcp) → lcp_text p ≡ printed_text (lcp_printed p)
text_is p =
    behind_five (codes "NAME lcp\n") (lcp_rows p) (lcp_columns p) (lcp_rights p) (lcp_pairs p) (codes "ENDATA\n")
    ∙ (λ i. codes "NAME lcp\n" ++ (rows_text p i ++ (columns_text p i ++ (rights_text p i ++ (pairs_text p i ++ codes "ENDATA\n")))))

-- ---- the deck

pub deck_is : (p : Lcp) (end : ℕ) → printed_deck (lcp_printed p) end ≡ lcp_deck p end
deck_is p end = λ i. record (lcp_deck p end) {
  rows = row N 3 (pos 0) ∷ mapped row_of (lcp_named_row p) p.size i;
  columns = mapped column_of lcp_named_column p.size i;
  pairs = mapped pair_of lcp_pair_of p.size i;
}

-- ---- what the parts keep

small : (p : Lcp) → IsLcp p → p.size ≤ 1000
small p h = let f : AreFew (lcp_counts p.size p.rows) = few (lcp_counts p.size p.rows) h.few in omega (arith, f.columns)

right_fits : (p : Lcp) (i : ℕ) → IsLcp p → i < p.size → Fits (neg_ℤ (number_at p.q i))
right_fits p i h l = negated (number_at p.q i) (h.fitting i (pos 0) (omega (arith, l, h.numbers)))
  where
    negated : (y : ℤ) → Fits y → Fits (neg_ℤ y)
    negated (pos zero) f = f
    negated (pos (suc n)) f = f
    negated (negsuc n) f = f

abbrev IsWholeEntry : Entry → Type 0
IsWholeEntry e = IsWhole e.value

column_whole : (p : Lcp) (j : ℕ) → IsLcp p → All IsWholeEntry (lcp_entries p j)
column_whole p j h =
    All-cons IsWholeEntry (entry j 0 (pos 0)) (block j 1 (coefficients p j) p.size) (whole_of (pos 0) refl)
    (all_block IsWholeEntry j 1 (coefficients p j) p.size (λ i l. whole_of (coefficients p j i) (coefficient_fits 0 p.size (terms_of_row p i) j (h.rows i [] (omega (arith, l, h.size))))))

is_block : (p : Lcp) (j : ℕ) → IsBlock (0 + j) (lcp_entries p j)
is_block p j =
    let P : Entry → Type 0 = λ e. e.column ≡ 0 + j in
    let same : j ≡ 0 + j = omega arith in
    (same, recursion_from_All P (block j 1 (coefficients p j) p.size) (all_block P j 1 (coefficients p j) p.size (λ i l. same)))

order : (p : Lcp) → FollowColumns (length (listed lcp_named_column p.size)) 0 (flat_map (lcp_entries p) (range_with_len 0 p.size))
order p =
    let n : 0 + (0 + p.size) ≡ length (listed lcp_named_column p.size) = omega (arith, length-map-range_with_len lcp_named_column 0 p.size) in
    subst (FollowColumns (length (listed lcp_named_column p.size)) 0) (append-nil (flat_map (lcp_entries p) (range_with_len 0 p.size)))
    (follow_all (length (listed lcp_named_column p.size)) 0 (lcp_entries p) 0 p.size [] (is_block p) n)

no_rights : (p : Lcp) → IsLcp p → not (list_all is_zero p.q) ≡ false → rights_words (lcp_printed p) ≡ []
no_rights p h e =
    none_made right_words (listed (lcp_named_row p) p.size)
    (each_listed (λ r. right_words r ≡ []) (lcp_named_row p) p.size
    (λ i l. right_nothing (lcp_named_row p i) (neg_zero (number_at p.q i) (passes_at is_zero p.q i (pos 0) (not-false (list_all is_zero p.q) e) (omega (arith, l, h.numbers))))))

pub is_printed : (p : Lcp) → IsLcp p → IsPrinted (lcp_printed p)
is_printed p h =
    let few = small p h in
    record {
      title = (omega arith, (omega arith, (omega arith, tt)));
      row_words = subst (AllByRecursion IsWord) (sym (rows_are p)) (cost_is, each_listed IsWord w p.size (λ i l. numbered_word 119 i (omega arith) (omega (arith, l, few))));
      column_words = subst (AllByRecursion IsWord) (sym (columns_are p)) (each_listed IsWord z p.size (λ j l. numbered_word 122 j (omega arith) (omega (arith, l, few))));
      row_names = subst AreDistinct (sym (rows_are p)) (other_letter 119 99 p.size (codes "ost") refl, distinct_names 119 p.size (omega (arith, few)));
      column_names = subst AreDistinct (sym (columns_are p)) (distinct_names 122 p.size (omega (arith, few)));
      no_markers = (refl, each_listed IsNoMarker (lcp_named_row p) p.size (λ i l. refl));
      objective = refl;
      others = each_listed IsOther (lcp_named_row p) p.size (λ i l. refl);
      rows = (row_on N 3 (pos 0) refl, rows_from (lcp_named_row p) 4 p.size (λ i l. row_on G (4 + i) (neg_ℤ (number_at p.q i)) (right_fits p i h l)));
      columns = all_default (behind_rights (lcp_printed p) + 1) (listed lcp_named_column p.size) (each_listed (λ c. c.1 ≡ default_column) lcp_named_column p.size (λ j l. refl));
      entries = recursion_from_All IsWholeEntry (flat_map (lcp_entries p) (range_with_len 0 p.size)) (all_flat IsWholeEntry (lcp_entries p) 0 p.size (λ j low high. column_whole p j h));
      order = order p;
      rights = no_rights p h;
      bounds = λ e. none_made bound_words (listed lcp_named_column p.size) (each_listed (λ c. bound_words c ≡ []) lcp_named_column p.size (λ j l. refl));
      pairs = λ e. absurd (cc e);
    }

pub spelled : (p : Lcp) → IsLcp p → (end : ℕ) × Spells (lcp_text p) (lcp_deck p end) (length (lcp_text p))
spelled p h =
    let end = end_of (lcp_printed p) in
    let deck : IsDeck (printed_deck (lcp_printed p) end) = subst IsDeck (sym (deck_is p end)) (is_deck p end h) in
    let all = is_spelled (lcp_printed p) (is_printed p h) deck in
    (end, subst (λ t. Spells t (lcp_deck p end) (length t)) (sym (text_is p)) (subst (λ d. Spells (printed_text (lcp_printed p)) d (length (printed_text (lcp_printed p)))) (deck_is p end) all))
