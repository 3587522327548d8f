-- The text of a printed deck spells the deck.
use Rattle.std.proofs.Common.{ℕ, zero, suc, ◌+◌, ◌^◌, ◌<◌, ◌≤◌, ◌≡◌, Bool, true, false, not, ◌||◌, cond, List, [], ◌∷◌, ◌++◌, length, map, Some, None, refl, sym, ap, subst, ◌∙◌, arith}
use Rattle.std.specs.Prelude.{codes}
use Rattle.std.specs.Fmt.{signed_decimal}
use Rattle.std.specs.List.{AllByRecursion, flat_map, position_or_len}
use Rattle.std.specs.Str.{bytes_eq}
use Rattle.std.proofs.lemmas.Bool.{or_left, or_right}
use Rattle.std.proofs.lemmas.List.{length-append, length-map}
use Rattle.std.proofs.lemmas.List.Elements.{recursion_from_All}
use Rattle.lp_base.specs.declared.limits.TheConstants.{MOST_PAIRS}
use Rattle.std.proofs.lemmas.Option.{slice_get_within}
use Rattle.mps_lex.specs.Kinds.{Name as Word}
use Rattle.mps_lex.specs.Lines.{Line, lines_of}
use Rattle.mps_lex.specs.declared.line.Section.TheVariants.{Name, Rows, Columns, Rhs, Bounds, Pairs, Endata}
use Rattle.decks.specs.Bounds.{column_bounds, settings_in, upper_below_zero}
use Rattle.decks.specs.Decks.{IsDeck, NamesQuantity}
use Rattle.decks.specs.Names.{has}
use Rattle.decks.specs.Spelling.{RowLine, column_names as lined_columns, deck_entries, deck_pairs, deck_row, entries_in, has_objective, is_n, kept, row_values_in, rows_of as lined_rows}
use Rattle.decks.specs.Faults.{◌or◌, fault_if, named_at}
use Rattle.decks.specs.Texts.{Spells}
use Rattle.decks.specs.declared.fault.DeckWhy.TheVariants.{NoObjective}
use Rattle.decks.specs.declared.deck.Column.{Column}
use Rattle.decks.specs.declared.deck.Entry.{Entry}
use Rattle.decks.specs.declared.deck.Letter.{Letter}
use Rattle.decks.specs.declared.deck.Letter.TheVariants.{N, E, L, G}
use Rattle.decks.specs.declared.deck.PairLine.{PairLine}
use Rattle.decks.proofs.KeptNames.{own_name}
use Rattle.decks.proofs.KeptParts.{all_append, all_weaker}
use Rattle.decks.proofs.KeptSlices.{IsRightBy, Slices, columns_fault, rows_fault}
use Rattle.deck_print.specs.Printed.{FollowColumns, IsPrinted, IsWhole, IsWord, NamedColumn, NamedRow, Printed, all_pairs_words, behind_bounds, behind_entries, behind_rights, bound_words, bounds_words, column_name, column_names, column_of, data_text, end_of, entries_words, is_bounded, is_nothing, entry_words, letter_word, name_at, pair_of, pairs_words, printed_deck, printed_text, right_words, rights_words, row_name, row_names, row_of, row_words, rows_of, rows_words, section_text}
use Rattle.deck_print.proofs.Apart.{are_apart}
use Rattle.deck_print.proofs.BoundLines.{IsNamed, bound_lines, bounds_right, columns_again, none_below_zero, settings_said}
use Rattle.deck_print.proofs.ColumnLines.{AreColumnsOf, IsGoodEntry, columns_right, entries_again, entries_said, entry_lines}
use Rattle.deck_print.proofs.Decks.{deck_by}
use Rattle.deck_print.proofs.Lined.{AreWords, bounds_head, columns_head, end_head, head, pairs_head, rights_head, rows_head, title_is, title_kind, title_line}
use Rattle.deck_print.proofs.NumberedNames.{numbered_word, signed_word}
use Rattle.deck_print.proofs.PairLines.{IsGoodPair, good_pair, none_earlier, pair_lines, pairs_again, pairs_right}
use Rattle.deck_print.proofs.RightLines.{all_found, right_lines, rights_right, rows_again, values_said, whole_rows}
use Rattle.deck_print.proofs.RowLines.{all_kept, lines_of_rows, numbered, rows_right}
use Rattle.deck_print.proofs.Stages.{Stage, Stood, bounds_may, end_may, optional, pairs_may, rights_may, section_stage, with_section}
use Rattle.deck_print.proofs.Steps.{Begun, after, ended, head_step, no_slices, none_begun, nothing_reached, with_part}

-- ---- all words are words

is_word : (w : Word) → 0 < length w → AllByRecursion (λ b. 32 < b) w → IsWord w
is_word w some plain = record { some = some; plain = plain }

letter_is : (l : Letter) → IsWord (letter_word l)
letter_is N = is_word (codes "N") (omega arith) (omega arith, tt)
letter_is E = is_word (codes "E") (omega arith) (omega arith, tt)
letter_is L = is_word (codes "L") (omega arith) (omega arith, tt)
letter_is G = is_word (codes "G") (omega arith) (omega arith, tt)

rhs_is : IsWord (codes "rhs")
rhs_is = is_word (codes "rhs") (omega arith) (omega arith, (omega arith, (omega arith, tt)))

fr_is : IsWord (codes "FR")
fr_is = is_word (codes "FR") (omega arith) (omega arith, (omega arith, tt))

bnd_is : IsWord (codes "bnd")
bnd_is = is_word (codes "bnd") (omega arith) (omega arith, (omega arith, (omega arith, tt)))

row_is : IsWord (codes "ROW")
row_is = is_word (codes "ROW") (omega arith) (omega arith, (omega arith, (omega arith, tt)))

col_is : IsWord (codes "COL")
col_is = is_word (codes "COL") (omega arith) (omega arith, (omega arith, (omega arith, tt)))

name_is : (ns : List Word) (i : ℕ) → AllByRecursion IsWord ns → i < length ns → IsWord (name_at ns i)
name_is [] i h l = absurd (omega (arith, l))
name_is (n ∷ ns) zero h l = h.0
name_is (n ∷ ns) (suc i) h l = name_is ns i h.1 (omega (arith, l))

rows_are_words : (xs : List NamedRow) → AllByRecursion IsWord (map row_name xs) → AllByRecursion AreWords (map row_words xs)
rows_are_words [] h = tt
rows_are_words (x ∷ xs) h = ((letter_is x.1.letter, (h.0, tt)), rows_are_words xs h.1)

entries_are_words : (rows : List NamedRow) (cs : List Word) (es : List Entry) → AllByRecursion IsWord (map row_name rows) → AllByRecursion IsWord cs → AllByRecursion (IsGoodEntry (length rows) (length cs)) es
    → AllByRecursion AreWords (map (entry_words (map row_name rows) cs) es)
entries_are_words rows cs [] r c h = tt
entries_are_words rows cs (e ∷ es) r c h =
    let count : length (map row_name rows) ≡ length rows = length-map rows row_name in
    ((name_is cs e.column c h.0.column, (name_is (map row_name rows) e.row r (omega (arith, count, h.0.row)), (signed_word e.value.num h.0.value.few, tt))), entries_are_words rows cs es r c h.1)

rights_are_words : (xs : List NamedRow) → AllByRecursion IsWord (map row_name xs) → AllByRecursion (λ x. IsWhole x.1.rhs) xs → AllByRecursion AreWords (flat_map right_words xs)
rights_are_words [] r h = tt
rights_are_words (x ∷ xs) r h = all_append AreWords (right_words x) (flat_map right_words xs) (by (is_nothing x.1.rhs)) (rights_are_words xs r.1 h.1)
  where
    by : (t : Bool) → AllByRecursion AreWords (cond t [] ((codes "rhs" ∷ x.0 ∷ signed_decimal x.1.rhs.num ∷ []) ∷ []))
    by true = tt
    by false = ((rhs_is, (r.0, (signed_word x.1.rhs.num h.0.few, tt))), tt)

bounds_are_words : (cs : List NamedColumn) → AllByRecursion IsWord (map column_name cs) → AllByRecursion AreWords (flat_map bound_words cs)
bounds_are_words [] h = tt
bounds_are_words (c ∷ cs) h = all_append AreWords (bound_words c) (flat_map bound_words cs) (by (is_bounded c.1)) (bounds_are_words cs h.1)
  where
    by : (t : Bool) → AllByRecursion AreWords (cond t [] ((codes "FR" ∷ codes "bnd" ∷ c.0 ∷ []) ∷ []))
    by true = tt
    by false = ((fr_is, (bnd_is, (h.0, tt))), tt)

pairs_are_words : (rows : List NamedRow) (cs : List Word) (bounds : Word → Column) (k : ℕ) (qs : List (ℕ × ℕ)) → AllByRecursion IsWord (map row_name rows) → AllByRecursion IsWord cs → k + length qs < 2 ^ 60 → AllByRecursion (IsGoodPair rows cs bounds) qs
    → AllByRecursion AreWords (pairs_words (map row_name rows) cs k qs)
pairs_are_words rows cs bounds k [] r c few h = tt
pairs_are_words rows cs bounds k (q ∷ qs) r c few h =
    let name : IsWord (name_at (map row_name rows) q.0) = name_is (map row_name rows) q.0 r (omega (arith, length-map rows row_name, slice_get_within rows q.0 h.0.row.row h.0.row.there)) in
    ((numbered_word 112 k (omega arith) (omega (arith, few)), (row_is, (name, (col_is, (name_is cs q.1 c h.0.column, tt))))), pairs_are_words rows cs bounds (k + 1) qs r c (omega (arith, few)) h.1)

-- ---- facts of a deck, element by element

both : {X : Type 0} (P Q R : X → Type 0) → ((x : X) → P x → Q x → R x) → (xs : List X) → AllByRecursion P xs → AllByRecursion Q xs → AllByRecursion R xs
both P Q R f [] p q = tt
both P Q R f (x ∷ xs) p q = (f x p.0 q.0, both P Q R f xs p.1 q.1)

good_entries : (p : Printed) (end : ℕ) → IsPrinted p → IsDeck (printed_deck p end) → AllByRecursion (IsGoodEntry (length (rows_of p)) (length (column_names p))) p.entries
good_entries p end h d =
    let rows : length (map row_of (rows_of p)) ≡ length (rows_of p) = length-map (rows_of p) row_of in
    let columns : length (map column_of p.columns) ≡ length p.columns = length-map p.columns column_of in
    let names : length (column_names p) ≡ length p.columns = length-map p.columns column_name in
    both (λ e. (e.column < length (map column_of p.columns)) × (e.row < length (map row_of (rows_of p)))) (λ e. IsWhole e.value) (IsGoodEntry (length (rows_of p)) (length (column_names p)))
    (λ e there value. record { column = omega (arith, there.0, columns, names); row = omega (arith, there.1, rows); value = value }) p.entries (recursion_from_All _ p.entries d.entries_named) h.entries

-- the slices of the lines, of which ROWS begin behind line 2
abbrev rows_said : Printed → List Line
rows_said p = lines_of_rows 3 (rows_of p)

abbrev columns_said : Printed → List Line
columns_said p = entry_lines (row_names p) (column_names p) (3 + length (rows_words p) + 1) p.entries

abbrev rights_said : Printed → List Line
rights_said p = right_lines (behind_entries p + 1) (rows_of p)

abbrev bounds_said : Printed → List Line
bounds_said p = bound_lines (behind_rights p + 1) p.columns

abbrev pairs_said : Printed → List Line
pairs_said p = pair_lines (rows_of p) (column_names p) (behind_bounds p + 1) 0 p.pairs

-- what the slices say
record Said (p : Printed) : Type 0 where
  pub rows_right : IsRightBy rows_fault [] (rows_said p)
  pub rows : lined_rows (rows_said p) ≡ numbered 0 (rows_of p)
  pub columns_right : IsRightBy (columns_fault (rows_said p)) [] (columns_said p)
  pub columns : lined_columns (columns_said p) ≡ column_names p
  pub good : AllByRecursion (IsGoodEntry (length (rows_of p)) (length (column_names p))) p.entries
  pub bounds : map (column_bounds (settings_in (bounds_said p))) (column_names p) ≡ map column_of p.columns
  pub pairs : AllByRecursion (IsGoodPair (rows_of p) (column_names p) (column_bounds (settings_in (bounds_said p)))) p.pairs

all_named : (cs : List NamedColumn) → AllByRecursion (IsNamed (map column_name cs)) cs
all_named [] = tt
all_named (c ∷ cs) = (
  or_left (bytes_eq c.0 c.0) (has (map column_name cs) c.0) (own_name c.0),
  all_weaker (IsNamed (map column_name cs)) (IsNamed (map column_name (c ∷ cs))) (λ x h. or_right (bytes_eq x.0 c.0) (has (map column_name cs) x.0) h) cs (all_named cs),
)

good_pairs : (p : Printed) (end : ℕ) (bounds : Word → Column) → IsDeck (printed_deck p end) → map bounds (column_names p) ≡ map column_of p.columns → AllByRecursion (IsGoodPair (rows_of p) (column_names p) bounds) p.pairs
good_pairs p end bounds d same = from p.pairs (recursion_from_All _ (map pair_of p.pairs) d.pairs_named)
  where
    from : (qs : List (ℕ × ℕ)) → AllByRecursion (λ (q : PairLine). NamesQuantity (printed_deck p end) q.a × NamesQuantity (printed_deck p end) q.b) (map pair_of qs) → AllByRecursion (IsGoodPair (rows_of p) (column_names p) bounds) qs
    from [] h = tt
    from (q ∷ qs) h = (good_pair (rows_of p) p.columns bounds (printed_deck p end) q refl refl same h.0.0 h.0.1, from qs h.1)

said_by : (p : Printed) (end : ℕ) → IsPrinted p → IsDeck (printed_deck p end) → Said p
said_by p end h d =
    let rows : length (map row_of (rows_of p)) ≡ length (rows_of p) = length-map (rows_of p) row_of in
    let columns : length (map column_of p.columns) ≡ length p.columns = length-map p.columns column_of in
    let names : length (column_names p) ≡ length p.columns = length-map p.columns column_name in
    let r = rows_right p.objective p.others 3 h.objective (omega (arith, rows, d.few_rows)) h.row_names h.others h.rows in
    let good = good_entries p end h d in
    let of : AreColumnsOf (rows_said p) (rows_of p) (column_names p) =
    record { rows_are = r.1; row_names = h.row_names; names = h.column_names; few = omega (arith, columns, names, d.few_columns); no_markers = h.no_markers } in
    let c =
    columns_right (rows_said p) (rows_of p) (column_names p) [] [] p.entries 0 (3 + length (rows_words p) + 1) of refl refl (omega arith) tt good (are_apart [] p.entries d.ascending) (omega (arith, d.few_entries))
    (subst (λ n. FollowColumns n 0 p.entries) (sym names) h.order) in
    let bounds : map (column_bounds (settings_in (bounds_said p))) (column_names p) ≡ map column_of p.columns =
    ap (λ ss. map (column_bounds ss) (column_names p)) (settings_said (behind_rights p + 1) p.columns) ∙ columns_again (behind_rights p + 1) p.columns h.column_names h.columns in
    record { rows_right = r.0; rows = r.1; columns_right = c.0; columns = c.1; good = good; bounds = bounds; pairs = good_pairs p end (column_bounds (settings_in (bounds_said p))) d bounds }

-- ---- the deck

abbrev all_slices : Printed → Slices
all_slices p = record { rows = rows_said p; columns = columns_said p; rights = rights_said p; ranges = []; bounds = bounds_said p; pairs = pairs_said p; groups = [] }

objective_first : (p : Printed) → IsPrinted p → position_or_len (λ (r : RowLine). is_n r.letter) (numbered 0 (rows_of p)) ≡ 0
objective_first p h = ap (λ l. cond (not (is_n l)) (1 + position_or_len (λ (r : RowLine). is_n r.letter) (numbered 1 p.others)) 0) h.objective

deck_again : (p : Printed) (end : ℕ) → IsPrinted p → Said p → deck_by (all_slices p) end ≡ printed_deck p end
deck_again p end h s =
    let all : kept (lined_rows (rows_said p)) ≡ numbered 0 (rows_of p) = ap kept s.rows ∙ all_kept 0 (rows_of p) in
    let rows : map (deck_row (row_values_in (rights_said p)) []) (kept (lined_rows (rows_said p))) ≡ map row_of (rows_of p) =
    (λ i. map (deck_row (values_said (behind_entries p + 1) (rows_of p) (whole_rows 3 (rows_of p) h.rows) i) []) (all i)) ∙ rows_again 3 (rows_of p) h.row_names h.rows in
    let objective : position_or_len (λ (r : RowLine). is_n r.letter) (kept (lined_rows (rows_said p))) ≡ 0 = ap (position_or_len (λ (r : RowLine). is_n r.letter)) all ∙ objective_first p h in
    let columns : map (column_bounds (settings_in (bounds_said p))) (lined_columns (columns_said p)) ≡ map column_of p.columns = ap (map (column_bounds (settings_in (bounds_said p)))) s.columns ∙ s.bounds in
    let entries : deck_entries (lined_rows (rows_said p)) (lined_columns (columns_said p)) (entries_in (columns_said p)) ≡ p.entries =
    (λ i. deck_entries (s.rows i) (s.columns i) (entries_said (row_names p) (column_names p) (3 + length (rows_words p) + 1) p.entries h.entries i))
    ∙ entries_again (rows_of p) (column_names p) p.entries h.row_names h.column_names s.good in
    let pairs : deck_pairs (lined_rows (rows_said p)) (lined_columns (columns_said p)) (pairs_said p) ≡ map pair_of p.pairs =
    (λ i. deck_pairs (s.rows i) (s.columns i) (pairs_said p)) ∙ pairs_again (rows_of p) (column_names p) (column_bounds (settings_in (bounds_said p))) (behind_bounds p + 1) 0 p.pairs h.row_names h.column_names s.pairs in
    λ i. record (printed_deck p end) { rows = rows i; objective = objective i; columns = columns i; entries = entries i; pairs = pairs i }

-- ---- the lines

abbrev k_rows : Printed → Slices
k_rows p = with_part Rows (rows_said p) no_slices

abbrev k_columns : Printed → Slices
k_columns p = with_part Columns (columns_said p) (k_rows p)

abbrev k_rights : Printed → Slices
k_rights p = with_part Rhs (rights_said p) (k_columns p)

abbrev k_bounds : Printed → Slices
k_bounds p = with_part Bounds (bounds_said p) (k_rights p)

abbrev tail_pairs : Printed → List ℕ
tail_pairs p = section_text p.has_pairs (codes "PAIRS\n") (all_pairs_words p) ++ codes "ENDATA\n"

abbrev tail_bounds : Printed → List ℕ
tail_bounds p = section_text p.has_bounds (codes "BOUNDS\n") (bounds_words p) ++ tail_pairs p

abbrev tail_rights : Printed → List ℕ
tail_rights p = section_text p.has_rights (codes "RHS\n") (rights_words p) ++ tail_bounds p

abbrev tail_columns : Printed → List ℕ
tail_columns p = (codes "COLUMNS\n" ++ data_text (entries_words p)) ++ tail_rights p

abbrev tail_rows : Printed → List ℕ
tail_rows p = (codes "ROWS\n" ++ data_text (rows_words p)) ++ tail_columns p

abbrev first_begun : Begun
first_begun = after Name none_begun

first_stage : (p : Printed) → IsPrinted p → Stage (printed_text p) (tail_rows p) 2 (title_line p.name ∷ []) (Some Name) no_slices first_begun
first_stage p h = record {
  lines = title_is p.name (tail_rows p) h.title;
  reached = head_step [] None no_slices none_begun (title_line p.name) Name nothing_reached (title_kind p.name h.title) refl (record { ended = λ n. refl; order = refl }) refl refl;
}

abbrev rows_ls : Printed → List Line
rows_ls p = with_section (title_line p.name ∷ []) 2 Rows (codes "ROWS") 5 (rows_words p)

rows_stage : (p : Printed) → IsPrinted p → Said p → Stage (printed_text p) (tail_columns p) (3 + length (rows_words p)) (rows_ls p) (Some Rows) (k_rows p) (after Rows first_begun)
rows_stage p h s =
    section_stage (printed_text p) (codes "ROWS\n") (tail_columns p) (rows_words p) Rows (codes "ROWS") 5 2 (title_line p.name ∷ []) (Some Name) no_slices first_begun (first_stage p h) (rows_head 2)
    (record { words = refl; sense = refl; ends = refl; other = refl })
    (record { ended = λ n. refl; order = refl })
    (record { empty = refl; words = rows_are_words (rows_of p) h.row_words; right = s.rows_right })

abbrev columns_begun : Begun
columns_begun = after Columns (after Rows first_begun)

abbrev columns_ls : Printed → List Line
columns_ls p = with_section (rows_ls p) (3 + length (rows_words p)) Columns (codes "COLUMNS") 8 (entries_words p)

some_objective : (p : Printed) → IsPrinted p → Said p → has_objective (lined_rows (rows_said p)) ≡ true
some_objective p h s = ap has_objective s.rows ∙ or_left (is_n p.objective.1.letter) (has_objective (numbered 1 p.others)) (ap is_n h.objective)

columns_stage : (p : Printed) → IsPrinted p → Said p → Stage (printed_text p) (tail_rights p) (behind_entries p) (columns_ls p) (Some Columns) (k_columns p) columns_begun
columns_stage p h s =
    section_stage (printed_text p) (codes "COLUMNS\n") (tail_rights p) (entries_words p) Columns (codes "COLUMNS") 8 (3 + length (rows_words p)) (rows_ls p) (Some Rows) (k_rows p) (after Rows first_begun) (rows_stage p h s) (columns_head (3 + length (rows_words p)))
    (record { words = refl; sense = refl; ends = refl; other = refl })
    (record { ended = λ n. ap (λ t. named_at n (fault_if (not t) NoObjective) or None) (some_objective p h s); order = refl })
    (record { empty = refl; words = entries_are_words (rows_of p) (column_names p) p.entries h.row_words h.column_words s.good; right = s.columns_right })

-- what may still begin behind COLUMNS, and behind RHS
abbrev NoRights : Begun → Type 0
NoRights b = (b Rhs ≡ false) × (b Bounds ≡ false)

abbrev NoBounds : Begun → Type 0
NoBounds b = b Bounds ≡ false

abbrev Anything : Begun → Type 0
Anything b = Unit {0}

columns_stood : (p : Printed) → IsPrinted p → Said p → Stood (printed_text p) (tail_rights p) (behind_entries p) (k_columns p) 5 NoRights
columns_stood p h s = record {
  ls = columns_ls p;
  s = Some Columns;
  b = columns_begun;
  stage = columns_stage p h s;
  late = omega arith;
  early = omega arith;
  no_rows = refl;
  known = (refl, refl);
}

false_or : (a b : Bool) → a ≡ false → b ≡ false → (a || (b || false)) ≡ false
false_or a b e f = λ i. e i || (f i || false)

rights_stood : (p : Printed) → IsPrinted p → Said p → Stood (printed_text p) (tail_bounds p) (behind_rights p) (k_rights p) 5 NoBounds
rights_stood p h s =
    optional p.has_rights (printed_text p) (codes "RHS\n") (tail_bounds p) (rights_words p) Rhs (codes "RHS") 4 (behind_entries p) (k_columns p) 5 5 NoRights NoBounds (columns_stood p h s) h.rights (rights_head (behind_entries p))
    (record {
      plain = record { words = refl; sense = refl; ends = refl; other = refl };
      late = omega arith;
      early = omega arith;
      goes_on = omega arith;
      no_rows = refl;
      with_it = λ b known. false_or (b Bounds) false known.1 refl;
      without_it = λ b known. known.1;
    })
    (λ st b late early no_rows known. rights_may st (k_columns p) b refl late early no_rows known.0)
    (record {
      empty = refl;
      words = rights_are_words (rows_of p) h.row_words (whole_rows 3 (rows_of p) h.rows);
      right = rights_right (rows_said p) (numbered 0 (rows_of p)) [] [] (rows_of p) (behind_entries p + 1) s.rows refl refl h.row_names (all_found 0 (rows_of p)) (whole_rows 3 (rows_of p) h.rows);
    })

bounds_stood : (p : Printed) → IsPrinted p → Said p → Stood (printed_text p) (tail_pairs p) (behind_bounds p) (k_bounds p) 5 Anything
bounds_stood p h s =
    optional p.has_bounds (printed_text p) (codes "BOUNDS\n") (tail_pairs p) (bounds_words p) Bounds (codes "BOUNDS") 7 (behind_rights p) (k_rights p) 5 5 NoBounds Anything (rights_stood p h s) h.bounds (bounds_head (behind_rights p))
    (record {
      plain = record { words = refl; sense = refl; ends = refl; other = refl };
      late = omega arith;
      early = omega arith;
      goes_on = omega arith;
      no_rows = refl;
      with_it = λ b known. tt;
      without_it = λ b known. tt;
    })
    (λ st b late early no_rows known. bounds_may st (k_rights p) b refl late early no_rows known)
    (record {
      empty = refl;
      words = bounds_are_words p.columns h.column_words;
      right = bounds_right (columns_said p) (column_names p) [] p.columns (behind_rights p + 1) s.columns refl (all_named p.columns);
    })

none_below : (p : Printed) → upper_below_zero (settings_in (bounds_said p)) ≡ None
none_below p = ap upper_below_zero (settings_said (behind_rights p + 1) p.columns) ∙ none_below_zero (behind_rights p + 1) p.columns

pairs_stood : (p : Printed) → IsPrinted p → Said p → length p.pairs ≤ MOST_PAIRS → Stood (printed_text p) (codes "ENDATA\n") (end_of p) (all_slices p) 6 Anything
pairs_stood p h s few =
    optional p.has_pairs (printed_text p) (codes "PAIRS\n") (codes "ENDATA\n") (all_pairs_words p) Pairs (codes "PAIRS") 6 (behind_bounds p) (k_bounds p) 5 6 Anything Anything (bounds_stood p h s)
    (λ e. ap (pairs_words (row_names p) (column_names p) 0) (h.pairs e)) (pairs_head (behind_bounds p))
    (record {
      plain = record { words = refl; sense = refl; ends = refl; other = refl };
      late = omega arith;
      early = omega arith;
      goes_on = omega arith;
      no_rows = refl;
      with_it = λ b known. tt;
      without_it = λ b known. tt;
    })
    (λ st b late early no_rows known. pairs_may st (k_bounds p) b (none_below p) late early no_rows)
    (record {
      empty = refl;
      words = pairs_are_words (rows_of p) (column_names p) (column_bounds (settings_in (bounds_said p))) 0 p.pairs h.row_words h.column_words (omega (arith, few)) s.pairs;
      right =
          pairs_right (rows_said p) (columns_said p) (bounds_said p) [] (rows_of p) (column_names p) p.pairs 0 (behind_bounds p + 1) (record { rows_are = s.rows; columns_are = s.columns; row_names = h.row_names }) refl (omega (arith, few))
          none_earlier s.pairs;
    })

pub is_spelled : (p : Printed) → IsPrinted p → IsDeck (printed_deck p (end_of p)) → Spells (printed_text p) (printed_deck p (end_of p)) (length (printed_text p))
is_spelled p h d =
    let s = said_by p (end_of p) h d in
    let few : length p.pairs ≤ MOST_PAIRS = omega (arith, d.few_pairs, length-map p.pairs pair_of, length-append (map pair_of p.pairs) []) in
    let st = pairs_stood p h s few in
    let lines : lines_of (printed_text p) ≡ st.ls ++ head (end_of p) Endata (codes "ENDATA") 7 ∷ [] = st.stage.lines ∙ ap (λ x. st.ls ++ x) (end_head (end_of p)) in
    let spelled = ended (printed_text p) st.ls (head (end_of p) Endata (codes "ENDATA") 7) st.s (all_slices p) st.b lines st.stage.reached refl (end_may st.s (all_slices p) st.b (none_below p) st.late st.early st.no_rows) in
    subst (λ x. Spells (printed_text p) x (length (printed_text p))) (deck_again p (end_of p) h s) spelled
