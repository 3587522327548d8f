-- Parts of printed decks: their texts and what they keep.
use Rattle.std.proofs.Common.{ℕ, zero, suc, ◌+◌, ◌<◌, ◌≡◌, Bool, true, false, not, cond, List, [], ◌∷◌, ◌++◌, length, map, get_or, refl, sym, ap, subst, ◌∙◌, inl, inr, arith, ℤ, pos, negsuc, neg_ℤ}
use Rattle.std.specs.Prelude.{codes}
use Rattle.std.specs.Fmt.{signed_decimal}
use Rattle.std.specs.List.{AllByRecursion, flat_map, list_all, range_with_len}
use Rattle.std.proofs.lemmas.Bool.{and_parts, eqb-true}
use Rattle.std.proofs.lemmas.List.{append-nil}
use Rattle.std.proofs.lemmas.List.Folds.{flat_map-map}
use Rattle.deck_gen.specs.Generator.{joined}
use Rattle.mps_lex.specs.Kinds.{Name}
use Rattle.decks.specs.Bounds.{default_column}
use Rattle.decks.specs.declared.deck.Entry.{Entry}
use Rattle.decks.specs.declared.deck.Letter.{Letter}
use Rattle.deck_case.specs.DeckVerdicts.{whole}
use Rattle.front_text.specs.Problems.{Fits}
use Rattle.kkt_front.specs.Decks.{block, entry, entry_if, listed, row}
use Rattle.kkt_front.specs.DeckTexts.{is_zero, numbered, pair_line, right_line, value_end}
use Rattle.front_case.proofs.Numbers.{small}
use Rattle.deck_print.specs.Printed.{AreColumnsFrom, IsRowOn, IsWhole, IsWord, NamedColumn, NamedRow, bound_words, data_text, entry_words, free_column, is_nothing, line_text, name_at, numbered_name, pair_name, pair_words, pairs_words, right_words, row_words}
use Rattle.front_deck.proofs.Listed.{at_number, if_left, lines_joined, mapped, parts_joined}
use Rattle.front_deck.proofs.Numbered.{four_parts, three_words}

-- ---- numbers

pub whole_of : (z : ℤ) → Fits z → IsWhole (whole z)
whole_of z h = record { whole = refl; few = omega (arith, small z h) }

pub row_on : (letter : Letter) (line : ℕ) (right : ℤ) → Fits right → IsRowOn line (row letter line right)
row_on letter line right h = record { line_is = refl; right = whole_of right h; no_range = refl }

pub cost_is : IsWord (codes "cost")
cost_is = record { some = omega arith; plain = (omega arith, (omega arith, (omega arith, (omega arith, tt)))) }

pub neg_zero : (z : ℤ) → is_zero z ≡ true → is_zero (neg_ℤ z) ≡ true
neg_zero (pos zero) e = refl
neg_zero (pos (suc n)) e = absurd (omega (arith, eqb-true (suc n) 0 e))
neg_zero (negsuc n) e = absurd (omega (arith, eqb-true (suc n) 0 e))

pub passes_at : {X : Type 0} (p : X → Bool) (xs : List X) (i : ℕ) (d : X) → list_all p xs ≡ true → i < length xs → p (get_or xs i d) ≡ true
passes_at p [] i d e l = absurd (omega (arith, l))
passes_at p (x ∷ xs) zero d e l = (and_parts (p x) (list_all p xs) e).0
passes_at p (x ∷ xs) (suc i) d e l = passes_at p xs i d (and_parts (p x) (list_all p xs) e).1 (omega (arith, l))

-- ---- names by number

pub name_listed : {X : Type 0} (g : X → Name) (f : ℕ → X) (n i : ℕ) → i < n → name_at (map g (listed f n)) i ≡ g (f i)
name_listed g f n i l = ap (λ t. name_at t i) (mapped g f n) ∙ at_number (λ k. g (f k)) n i [] l

pub name_behind : (m : Name) (ns : List Name) (i : ℕ) → name_at (m ∷ ns) (1 + i) ≡ name_at ns i
name_behind m ns i = ap (name_at (m ∷ ns)) (let z : 1 + i ≡ suc i = omega arith in z)

-- ---- the texts of sections

pub rows_joined : (f : ℕ → NamedRow) (line : ℕ → List ℕ) (n : ℕ) → ((i : ℕ) → i < n → line i ≡ line_text (row_words (f i))) → joined line n ≡ data_text (map row_words (listed f n))
rows_joined f line n h = lines_joined line_text (λ i. row_words (f i)) line n h ∙ ap data_text (sym (mapped row_words f n))

pub rights_joined : (f : ℕ → NamedRow) (line : ℕ → List ℕ) (n : ℕ) → ((i : ℕ) → i < n → line i ≡ data_text (right_words (f i))) → joined line n ≡ data_text (flat_map right_words (listed f n))
rights_joined f line n h = parts_joined line_text (λ i. right_words (f i)) line n h ∙ ap data_text (sym (flat_map-map right_words f (range_with_len 0 n)))

pub bounds_joined : (f : ℕ → NamedColumn) (line : ℕ → List ℕ) (n : ℕ) → ((i : ℕ) → i < n → line i ≡ data_text (bound_words (f i))) → joined line n ≡ data_text (flat_map bound_words (listed f n))
bounds_joined f line n h = parts_joined line_text (λ i. bound_words (f i)) line n h ∙ ap data_text (sym (flat_map-map bound_words f (range_with_len 0 n)))

pairs_from : (rs cs : List Name) (f : ℕ → ℕ × ℕ) (a n : ℕ) → pairs_words rs cs a (map f (range_with_len a n)) ≡ map (λ i. pair_words rs cs i (f i)) (range_with_len a n)
pairs_from rs cs f a zero = refl
pairs_from rs cs f a (suc n) = ap (λ t. pair_words rs cs a (f a) ∷ t) (pairs_from rs cs f (a + 1) n)

pub pairs_joined : (rs cs : List Name) (f : ℕ → ℕ × ℕ) (line : ℕ → List ℕ) (n : ℕ) → ((i : ℕ) → i < n → line i ≡ line_text (pair_words rs cs i (f i))) → joined line n ≡ data_text (pairs_words rs cs 0 (listed f n))
pairs_joined rs cs f line n h = lines_joined line_text (λ i. pair_words rs cs i (f i)) line n h ∙ ap data_text (sym (pairs_from rs cs f 0 n))

-- ---- the texts of entries

abbrev pub entry_text : List Name → List Name → Entry → List ℕ
entry_text rs cs e = line_text (entry_words rs cs e)

abbrev pub entries_text : List Name → List Name → List Entry → List ℕ
entries_text rs cs es = flat_map (entry_text rs cs) es

pub one_entry : (rs cs : List Name) (c r : Name) (j i : ℕ) (v : ℤ) → name_at cs j ≡ c → name_at rs i ≡ r → ((32 ∷ c) ++ (32 ∷ r)) ++ value_end v ≡ entry_text rs cs (entry j i v)
one_entry rs cs c r j i v ec er = three_words c r (signed_decimal v) ∙ (λ k. line_text (sym ec k ∷ sym er k ∷ signed_decimal v ∷ []))

pub block_joined : (rs cs : List Name) (line : ℕ → List ℕ) (j first : ℕ) (v : ℕ → ℤ) (n : ℕ) → ((i : ℕ) → i < n → line i ≡ cond (is_zero (v i)) [] (entry_text rs cs (entry j (first + i) (v i)))) → joined line n ≡ entries_text rs cs (block j first v n)
block_joined rs cs line j first v n h =
    parts_joined (entry_text rs cs) (λ i. entry_if j (first + i) (v i)) line n
    (λ i l. h i l ∙ if_left (entry_text rs cs) (is_zero (v i)) (entry j (first + i) (v i)) (entry_text rs cs (entry j (first + i) (v i))) refl)

pub columns_joined : (rs cs : List Name) (g : ℕ → List Entry) (line : ℕ → List ℕ) (n : ℕ) → ((j : ℕ) → j < n → line j ≡ entries_text rs cs (g j)) → joined line n ≡ entries_text rs cs (flat_map g (range_with_len 0 n))
columns_joined rs cs g line n h = parts_joined (entry_text rs cs) g line n h

pub entries_data : (rs cs : List Name) (es : List Entry) → entries_text rs cs es ≡ data_text (map (entry_words rs cs) es)
entries_data rs cs es = sym (flat_map-map line_text (entry_words rs cs) es)

-- ---- sections that may be left out

pub left_out : (t : Bool) (x y : List ℕ) → x ≡ y → cond t [] x ≡ cond (not t) y []
left_out true x y e = refl
left_out false x y e = e

pub none_made : {X Y : Type 0} (g : X → List Y) (xs : List X) → AllByRecursion (λ x. g x ≡ []) xs → flat_map g xs ≡ []
none_made g [] h = refl
none_made g (x ∷ xs) h = λ i. h.0 i ++ none_made g xs h.1 i

pub all_default : (line : ℕ) (cs : List NamedColumn) → AllByRecursion (λ c. c.1 ≡ default_column) cs → AreColumnsFrom line cs
all_default line [] h = tt
all_default line (c ∷ cs) h = inl (h.0, all_default line cs h.1)

-- columns that are freed on lines from this one on, and behind them columns that are not
frees_on : (f : ℕ → NamedColumn) (line a n : ℕ) (rest : List NamedColumn) → ((i : ℕ) → (f i).1 ≡ free_column (line + i)) → AllByRecursion (λ c. c.1 ≡ default_column) rest → AreColumnsFrom (line + a) (map f (range_with_len a n) ++ rest)
frees_on f line a zero rest h d = all_default (line + a) rest d
frees_on f line a (suc n) rest h d = inr (h a, subst (λ k. AreColumnsFrom k (map f (range_with_len (a + 1) n) ++ rest)) (let z : line + (a + 1) ≡ line + a + 1 = omega arith in z) (frees_on f line (a + 1) n rest h d))

pub frees_from : (f : ℕ → NamedColumn) (line n : ℕ) (rest : List NamedColumn) → ((i : ℕ) → (f i).1 ≡ free_column (line + i)) → AllByRecursion (λ c. c.1 ≡ default_column) rest → AreColumnsFrom line (listed f n ++ rest)
frees_from f line n rest h d = subst (λ k. AreColumnsFrom k (listed f n ++ rest)) (let z : line + 0 ≡ line = omega arith in z) (frees_on f line 0 n rest h d)

-- ---- the text of a right-hand side

pub right_text : (c i : ℕ) (letter : Letter) (line : ℕ) (v : ℤ) → right_line (codes " rhs " ++ c ∷ []) i v ≡ data_text (right_words (numbered_name c i, row letter line v))
right_text c i letter line v = by (is_zero v)
  where
    by : (t : Bool) → cond t [] (numbered (codes " rhs " ++ c ∷ []) i ++ value_end v) ≡ data_text (cond t [] ((codes "rhs" ∷ numbered_name c i ∷ signed_decimal v ∷ []) ∷ []))
    by true = refl
    by false = sym (append-nil (line_text (codes "rhs" ∷ numbered_name c i ∷ signed_decimal v ∷ [])))

-- a right-hand side that is 0 has no words
pub right_nothing : (r : NamedRow) → is_nothing r.1.rhs ≡ true → right_words r ≡ []
right_nothing r e = ap (λ t. cond t [] ((codes "rhs" ∷ r.0 ∷ signed_decimal r.1.rhs.num ∷ []) ∷ [])) e

-- ---- the text of a pair

pub pair_text : (rs cs : List Name) (c d i : ℕ) (q : ℕ × ℕ) → name_at rs q.0 ≡ numbered_name c i → name_at cs q.1 ≡ numbered_name d i → pair_line (codes " ROW " ++ c ∷ []) (codes " COL " ++ d ∷ []) i ≡ line_text (pair_words rs cs i q)
pair_text rs cs c d i q er ec =
    four_parts (numbered (codes " p") i) (numbered (codes " ROW " ++ c ∷ []) i) (numbered (codes " COL " ++ d ∷ []) i) (codes "\n")
    ∙ (λ k. line_text (pair_name i ∷ codes "ROW" ∷ sym er k ∷ codes "COL" ∷ sym ec k ∷ []))
