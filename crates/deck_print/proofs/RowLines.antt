-- The lines of ROWS: they are right, and name the rows in their order.
use Rattle.std.proofs.Common.{ℕ, zero, suc, ◌+◌, ◌<◌, ◌≤◌, ◌≡◌, Bool, true, false, not, ◌&&◌, cond, List, [], ◌∷◌, ◌++◌, length, map, Some, None, refl, sym, ap, subst, ◌∙◌, append_assoc, arith}
use Rattle.std.specs.Prelude.{slice_get, is_some, nat_le}
use Rattle.std.specs.List.{AllByRecursion}
use Rattle.std.specs.Str.{bytes_eq}
use Rattle.std.proofs.lemmas.Bool.{and_right, lt-leb, or_parts}
use Rattle.std.proofs.lemmas.List.{append-nil, length-append, map-append}
use Rattle.std.proofs.lemmas.List.Elements.{filter-append}
use Rattle.std.proofs.lemmas.List.Sums.{fold_push, sum_by-append, sum_by-cons}
use Rattle.std.proofs.lemmas.Option.{same_Some}
use Rattle.lp_base.specs.declared.limits.TheConstants.{MOST_ROWS}
use Rattle.mps_lex.specs.Kinds.{Name}
use Rattle.mps_lex.specs.Lines.{Line}
use Rattle.decks.specs.declared.deck.Letter.{Letter}
use Rattle.decks.specs.declared.deck.Letter.TheVariants.{N, E, L, G}
use Rattle.decks.specs.declared.fault.DeckWhy.TheVariants.{RowLetter, NameTwice, TooMany}
use Rattle.decks.specs.Names.{has}
use Rattle.decks.specs.Spelling.{RowLine, add_row, has_objective, is_n, kept, letter_of, number_behind, other_rows, row_line, row_named, rows_of as lined_rows}
use Rattle.decks.specs.Faults.{◌or◌, fault_if, is_letter, many_rows_fault, row_fault}
use Rattle.decks.proofs.KeptNames.{own_name}
use Rattle.decks.proofs.KeptParts.{get_map}
use Rattle.decks.proofs.KeptSlices.{IsRightBy, rows_fault}
use Rattle.decks.proofs.OnceNames.{other_way}
use Rattle.deck_print.specs.Printed.{AreDistinct, AreRowsFrom, IsOther, IsRowOn, NamedRow, letter_word, row_name, row_words}
use Rattle.deck_print.proofs.Lined.{all_said, said}
use Rattle.deck_print.proofs.Names.{apart_at, distinct_front}

-- ---- the rows that lines name

abbrev pub numbered_row : ℕ → NamedRow → RowLine
numbered_row i x = record { letter = x.1.letter; line = x.1.line; name = x.0; number = Some i }

abbrev pub numbered : ℕ → List NamedRow → List RowLine
numbered i [] = []
numbered i (x ∷ xs) = numbered_row i x ∷ numbered (i + 1) xs

abbrev pub lines_of_rows : ℕ → List NamedRow → List Line
lines_of_rows n xs = all_said n (map row_words xs)

abbrev line_name : RowLine → Name
line_name r = r.name

letter_again : (l : Letter) → letter_of (letter_word l) ≡ l
letter_again N = refl
letter_again E = refl
letter_again L = refl
letter_again G = refl

is_a_letter : (l : Letter) → is_letter (letter_word l) ≡ true
is_a_letter N = refl
is_a_letter E = refl
is_a_letter L = refl
is_a_letter G = refl

rows_push : (ls : List Line) (l : Line) → lined_rows (ls ++ l ∷ []) ≡ add_row (lined_rows ls) l
rows_push ls l = fold_push add_row [] ls l

not_named : (rs : List RowLine) (n : Name) → has (map line_name rs) n ≡ false → row_named rs n ≡ None
not_named [] n h = refl
not_named (r ∷ rs) n h =
    let p = or_parts (bytes_eq n r.name) (has (map line_name rs) n) h in
    ap (λ t. cond t (Some r) (row_named rs n)) p.0 ∙ not_named rs n p.1

-- ---- one more row

number_of : (done : List RowLine) (l : Letter) → is_n l ≡ false → kept done ≡ done → number_behind done l ≡ Some (length done)
number_of done l other all = ap (λ t. cond (t && has_objective done) None (Some (length (kept done)))) other ∙ ap (λ rs. Some (length rs)) all

row_made : (done : List RowLine) (n : ℕ) (x : NamedRow) → IsRowOn n x.1 → number_behind done x.1.letter ≡ Some (length done) → row_line done n (row_words x) ≡ numbered_row (length done) x
row_made done n x on number =
    let letter = letter_again x.1.letter in
    let full : number_behind done (letter_of (letter_word x.1.letter)) ≡ Some (length done) = ap (number_behind done) letter ∙ number in
    λ i. record { letter = letter i; line = sym on.line_is i; name = x.0; number = full i }

pub row_fine : (done : List RowLine) (x : NamedRow) → has (map line_name done) x.0 ≡ false → many_rows_fault done (letter_word x.1.letter) ≡ None → row_fault done (row_words x) ≡ None
row_fine done x new few =
    let w = letter_word x.1.letter in
    let name = fault_if (is_some (row_named done x.0)) NameTwice in
    ap (λ t. fault_if (not t) RowLetter or (name or many_rows_fault done w)) (is_a_letter x.1.letter)
    ∙ ap (λ o. fault_if (is_some o) NameTwice or many_rows_fault done w) (not_named done x.0 new)
    ∙ few

few_rows : (done : List RowLine) (l : Letter) → other_rows done < MOST_ROWS → many_rows_fault done (letter_word l) ≡ None
few_rows done l few = ap (λ t. fault_if t TooMany) (and_right (not (is_n (letter_of (letter_word l)))) (nat_le MOST_ROWS (other_rows done)) (lt-leb MOST_ROWS (other_rows done) few))

other_more : (done : List RowLine) (r : RowLine) → other_rows (done ++ r ∷ []) ≤ other_rows done + 1
other_more done r =
    let f : RowLine → ℕ = λ y. cond (not (is_n y.letter)) 1 0 in
    omega (arith, sum_by-append f done (r ∷ []), sum_by-cons f r [], at_most (is_n r.letter))
  where
    at_most : (t : Bool) → cond (not t) 1 0 ≤ 1
    at_most true = omega arith
    at_most false = omega arith

-- ---- all rows

abbrev AreRight : List Line → List RowLine → List NamedRow → ℕ → Type 0
AreRight before done xs n = IsRightBy rows_fault before (lines_of_rows n xs) × (lined_rows (before ++ lines_of_rows n xs) ≡ done ++ numbered (length done) xs)

row_step : (before : List Line) (done : List RowLine) (x : NamedRow) (xs : List NamedRow) (n : ℕ) → lined_rows before ≡ done → number_behind done x.1.letter ≡ Some (length done) → IsRowOn n x.1
    → has (map line_name done) x.0 ≡ false → many_rows_fault done (letter_word x.1.letter) ≡ None
    → (lined_rows (before ++ said n (row_words x) ∷ []) ≡ done ++ numbered_row (length done) x ∷ [] → AreRight (before ++ said n (row_words x) ∷ []) (done ++ numbered_row (length done) x ∷ []) xs (n + 1))
    → AreRight before done (x ∷ xs) n
row_step before done x xs n e number on new few next =
    let l = said n (row_words x) in
    let r = numbered_row (length done) x in
    let added : lined_rows (before ++ l ∷ []) ≡ done ++ r ∷ [] = rows_push before l ∙ ap (λ rs. add_row rs l) e ∙ ap (λ y. done ++ y ∷ []) (row_made done n x on number) in
    let rest = next added in
    let longer : length (done ++ r ∷ []) ≡ length done + 1 = length-append done (r ∷ []) in (
      (ap (λ rs. row_fault rs (row_words x)) e ∙ row_fine done x new few, rest.0),
      ap lined_rows (sym (append_assoc before (l ∷ []) (lines_of_rows (n + 1) xs))) ∙ rest.1
          ∙ append_assoc done (r ∷ []) (numbered (length (done ++ r ∷ [])) xs) ∙ ap (λ k. done ++ r ∷ numbered k xs) longer,
    )

others_right : (before : List Line) (done : List RowLine) (xs : List NamedRow) (n : ℕ) → lined_rows before ≡ done → kept done ≡ done → other_rows done + length xs ≤ MOST_ROWS
    → AreDistinct (map line_name done ++ map row_name xs) → AllByRecursion IsOther xs → AreRowsFrom n xs → AreRight before done xs n
others_right before done [] n e all few d other on = (tt, ap lined_rows (append-nil before) ∙ e ∙ sym (append-nil done))
others_right before done (x ∷ xs) n e all few d other on =
    let r = numbered_row (length done) x in
    row_step before done x xs n e (number_of done x.1.letter other.0 all) on.0 (distinct_front (map line_name done) (map row_name xs) x.0 d) (few_rows done x.1.letter (omega (arith, few)))
    (λ added. others_right (before ++ said n (row_words x) ∷ []) (done ++ r ∷ []) xs (n + 1) added
    (filter-append (λ (y : RowLine). is_some y.number) done (r ∷ []) ∙ ap (λ t. t ++ r ∷ []) all)
    (omega (arith, few, other_more done r))
    (subst AreDistinct (sym (ap (λ t. t ++ map row_name xs) (map-append line_name done (r ∷ [])) ∙ append_assoc (map line_name done) (x.0 ∷ []) (map row_name xs))) d)
    other.1 on.1)

none_other : (r : RowLine) → r.letter ≡ N → other_rows (r ∷ []) ≡ 0
none_other r e = let f : RowLine → ℕ = λ y. cond (not (is_n y.letter)) 1 0 in sum_by-cons f r [] ∙ ap (λ l. cond (not (is_n l)) 1 0 + 0) e

pub rows_right : (x : NamedRow) (xs : List NamedRow) (n : ℕ) → x.1.letter ≡ N → length xs ≤ MOST_ROWS → AreDistinct (map row_name (x ∷ xs)) → AllByRecursion IsOther xs → AreRowsFrom n (x ∷ xs) → AreRight [] [] (x ∷ xs) n
rows_right x xs n first few d other on =
    let r = numbered_row 0 x in
    row_step [] [] x xs n refl (ap (λ l. cond (is_n l && false) None (Some 0)) first) on.0 refl (ap (λ l. many_rows_fault [] (letter_word l)) first)
    (λ added. others_right (said n (row_words x) ∷ []) (r ∷ []) xs (n + 1) added refl (omega (arith, few, none_other r first)) d other on.1)

-- ---- what is found

pub all_kept : (i : ℕ) (xs : List NamedRow) → kept (numbered i xs) ≡ numbered i xs
all_kept i [] = refl
all_kept i (x ∷ xs) = ap (λ t. numbered_row i x ∷ t) (all_kept (i + 1) xs)

pub found_row : (xs : List NamedRow) (i j : ℕ) (x : NamedRow) → AreDistinct (map row_name xs) → slice_get xs j ≡ Some x → row_named (numbered i xs) x.0 ≡ Some (numbered_row (i + j) x)
found_row [] i j x d e = absurd cc
found_row (y ∷ xs) i zero x d e =
    let same : y ≡ x = same_Some y x e in
    ap (λ z. cond (bytes_eq x.0 z.0) (Some (numbered_row i z)) (row_named (numbered (i + 1) xs) x.0)) same
    ∙ ap (λ t. cond t (Some (numbered_row i x)) (row_named (numbered (i + 1) xs) x.0)) (own_name x.0)
    ∙ ap (λ k. Some (numbered_row k x)) (let z : i ≡ i + 0 = omega arith in z)
found_row (y ∷ xs) i (suc j) x d e =
    ap (λ t. cond t (Some (numbered_row i y)) (row_named (numbered (i + 1) xs) x.0)) (other_way y.0 x.0 (apart_at (map row_name xs) y.0 x.0 j d.0 (get_map row_name xs j x e)))
    ∙ found_row xs (i + 1) j x d.1 e
    ∙ ap (λ k. Some (numbered_row k x)) (let z : i + 1 + j ≡ i + suc j = omega arith in z)
