-- The lines of RHS: they are right, and give the right-hand sides that are not 0.
use Rattle.std.proofs.Common.{ℕ, zero as nought, suc, ◌+◌, ◌≡◌, Bool, true, false, cond, eqb, List, [], ◌∷◌, ◌++◌, map, Option, Some, None, refl, sym, ap, subst, ◌∙◌, append_assoc, arith, ℤ, pos, negsuc}
use Rattle.std.specs.Prelude.{codes, is_none, is_some, unsigned_abs, unwrap_or}
use Rattle.std.specs.Fmt.{signed_decimal}
use Rattle.std.specs.List.{AllByRecursion, flat_map}
use Rattle.std.specs.Str.{bytes_eq}
use Rattle.std.proofs.lemmas.Bool.{eqb-true, or_parts}
use Rattle.std.proofs.lemmas.Grind.{flat_map-append}
use Rattle.std.proofs.lemmas.List.{append-nil, map-append}
use Rattle.lp_nums.specs.Fractions.{Fraction}
use Rattle.mps_lex.specs.Kinds.{Name}
use Rattle.mps_lex.specs.Lines.{Line}
use Rattle.decks.specs.Decks.{zero}
use Rattle.decks.specs.declared.fault.DeckWhy.TheVariants.{EntryTwice, UnknownName}
use Rattle.decks.specs.declared.deck.Row as made
use Rattle.decks.specs.Names.{has, named}
use Rattle.decks.specs.Numbers.{text_fault}
use Rattle.decks.specs.Spelling.{RowLine, RowValue, deck_row, first_set, is_n, row_named, row_values_in, row_values_on, row_values_set, rows_of as lined_rows}
use Rattle.decks.specs.Faults.{◌or◌, fault_if, one_row_value_fault, row_values_fault, set_fault}
use Rattle.decks.proofs.KeptNames.{own_name}
use Rattle.decks.proofs.KeptParts.{all_weaker}
use Rattle.decks.proofs.KeptSlices.{IsRightBy, rights_fault}
use Rattle.decks.proofs.OnceNames.{other_way}
use Rattle.deck_print.specs.Printed.{AreDistinct, AreRowsFrom, IsRowOn, IsWhole, NamedRow, is_nothing, right_words, row_name, row_of}
use Rattle.deck_print.proofs.Lined.{all_said, said}
use Rattle.deck_print.proofs.Names.{distinct_front}
use Rattle.deck_print.proofs.Numbers.{fine_text, text_value}
use Rattle.deck_print.proofs.Optional.{one_set, right_by}
use Rattle.deck_print.proofs.RowLines.{numbered, numbered_row}

-- ---- rows by name

abbrev pub IsFound : List RowLine → NamedRow → Type 0
IsFound rs x = is_none (row_named rs x.0) ≡ false

found_wider : (r : RowLine) (rs : List RowLine) (x : NamedRow) → IsFound rs x → IsFound (r ∷ rs) x
found_wider r rs x h = by (bytes_eq x.0 r.name)
  where
    by : (t : Bool) → is_none (cond t (Some r) (row_named rs x.0)) ≡ false
    by true = refl
    by false = h

pub all_found : (i : ℕ) (xs : List NamedRow) → AllByRecursion (IsFound (numbered i xs)) xs
all_found i [] = tt
all_found i (x ∷ xs) = (
  ap (λ t. is_none (cond t (Some (numbered_row i x)) (row_named (numbered (i + 1) xs) x.0))) (own_name x.0),
  all_weaker (IsFound (numbered (i + 1) xs)) (IsFound (numbered i (x ∷ xs))) (found_wider (numbered_row i x) (numbered (i + 1) xs)) xs (all_found (i + 1) xs),
)

-- ---- the values

abbrev words : NamedRow → List Name
words x = codes "rhs" ∷ x.0 ∷ signed_decimal x.1.rhs.num ∷ []

abbrev row_value_of : NamedRow → RowValue
row_value_of x = (x.0, x.1.rhs)

abbrev pub right_of : NamedRow → List RowValue
right_of x = cond (is_nothing x.1.rhs) [] (row_value_of x ∷ [])

abbrev pub rights_of : List NamedRow → List RowValue
rights_of xs = flat_map right_of xs

abbrev pub right_lines : ℕ → List NamedRow → List Line
right_lines n xs = all_said n (flat_map right_words xs)

abbrev pub IsWholeRow : NamedRow → Type 0
IsWholeRow x = IsWhole x.1.rhs

pub whole_rows : (n : ℕ) (xs : List NamedRow) → AreRowsFrom n xs → AllByRecursion IsWholeRow xs
whole_rows n [] h = tt
whole_rows n (x ∷ xs) h = (h.0.right, whole_rows (n + 1) xs h.1)

value_said : (x : NamedRow) → IsWholeRow x → row_values_on (words x) ≡ (x.0, x.1.rhs) ∷ []
value_said x h = ap (λ f. (x.0, f) ∷ []) (text_value x.1.rhs h)

pub values_said : (n : ℕ) (xs : List NamedRow) → AllByRecursion IsWholeRow xs → row_values_in (right_lines n xs) ≡ rights_of xs
values_said n [] h = refl
values_said n (x ∷ xs) h = by (is_nothing x.1.rhs) (values_said n xs h.1) (values_said (n + 1) xs h.1)
  where
    by : (t : Bool) → row_values_in (right_lines n xs) ≡ rights_of xs → row_values_in (right_lines (n + 1) xs) ≡ rights_of xs
        → row_values_in (all_said n (cond t [] (words x ∷ []) ++ flat_map right_words xs)) ≡ cond t [] ((x.0, x.1.rhs) ∷ []) ++ rights_of xs
    by true here next = here
    by false here next = λ i. value_said x h.0 i ++ next i

-- ---- the lines are right

not_given : (xs : List NamedRow) (n : Name) → has (map row_name xs) n ≡ false → named (rights_of xs) n ≡ None
not_given [] n h = refl
not_given (x ∷ xs) n h = let p = or_parts (bytes_eq n x.0) (has (map row_name xs) n) h in by (is_nothing x.1.rhs) p.0 (not_given xs n p.1)
  where
    by : (t : Bool) → bytes_eq n x.0 ≡ false → named (rights_of xs) n ≡ None → named (cond t [] ((x.0, x.1.rhs) ∷ []) ++ rights_of xs) n ≡ None
    by true e rest = rest
    by false e rest = ap (λ t. cond t (Some x.1.rhs) (named (rights_of xs) n)) e ∙ rest

value_fine : (rs : List RowLine) (set : Option Name) (gs : List RowValue) (x : NamedRow) → set_fault set (codes "rhs") ≡ None → IsFound rs x → named gs x.0 ≡ None → IsWholeRow x → row_values_fault rs set gs (words x) ≡ None
value_fine rs set gs x one found new h =
    ap (λ o. o or one_row_value_fault rs gs x.0 (signed_decimal x.1.rhs.num)) one
    ∙ ap (λ t. fault_if t UnknownName or (fault_if (is_some (named gs x.0)) EntryTwice or text_fault (signed_decimal x.1.rhs.num))) found
    ∙ ap (λ o. fault_if (is_some o) EntryTwice or text_fault (signed_decimal x.1.rhs.num)) new
    ∙ fine_text x.1.rhs h

nothing_more : (x : NamedRow) → is_nothing x.1.rhs ≡ true → right_of x ≡ []
nothing_more x e = ap (λ t. cond t [] (row_value_of x ∷ [])) e

something_more : (x : NamedRow) → is_nothing x.1.rhs ≡ false → right_of x ≡ row_value_of x ∷ []
something_more x e = ap (λ t. cond t [] (row_value_of x ∷ [])) e

pub rights_right : (lines : List Line) (rs : List RowLine) (before : List Line) (done xs : List NamedRow) (n : ℕ) → lined_rows lines ≡ rs → set_fault (first_set row_values_set before) (codes "rhs") ≡ None → row_values_in before ≡ rights_of done
    → AreDistinct (map row_name done ++ map row_name xs) → AllByRecursion (IsFound rs) xs → AllByRecursion IsWholeRow xs → IsRightBy (rights_fault lines) before (right_lines n xs)
rights_right lines rs before done [] n e one values d found h = tt
rights_right lines rs before done (x ∷ xs) n e one values d found h =
    let t = is_nothing x.1.rhs in
    let l = said n (words x) in
    let apart : AreDistinct (map row_name (done ++ x ∷ []) ++ map row_name xs) =
    subst AreDistinct (sym (ap (λ ns. ns ++ map row_name xs) (map-append row_name done (x ∷ [])) ∙ append_assoc (map row_name done) (x.0 ∷ []) (map row_name xs))) d in
    let longer : rights_of (done ++ x ∷ []) ≡ rights_of done ++ (right_of x ++ []) = flat_map-append right_of done (x ∷ []) in
    right_by t (rights_fault lines) before n (words x) (flat_map right_words xs)
    (λ none. rights_right lines rs before (done ++ x ∷ []) xs n e one (values ∙ sym (append-nil (rights_of done)) ∙ ap (λ g. rights_of done ++ (g ++ [])) (sym (nothing_more x none)) ∙ sym longer) apart found.1 h.1)
    (λ some. (
      (λ i. row_values_fault (e i) (first_set row_values_set before) (values i) (words x)) ∙ value_fine rs (first_set row_values_set before) (rights_of done) x one found.0 (not_given done x.0 (distinct_front (map row_name done) (map row_name xs) x.0 d)) h.0,
      rights_right lines rs (before ++ l ∷ []) (done ++ x ∷ []) xs (n + 1) e (one_set row_values_set (codes "rhs") before l refl one)
          (flat_map-append (λ (y : Line). row_values_on y.fields) before (l ∷ []) ∙ (λ i. values i ++ (value_said x h.0 i ++ [])) ∙ ap (λ g. rights_of done ++ (g ++ [])) (sym (something_more x some)) ∙ sym longer)
          apart found.1 h.1,
    ))

-- ---- the rows of the deck

no_size : (z : ℤ) → eqb (unsigned_abs z) 0 ≡ true → z ≡ pos 0
no_size (pos nought) e = refl
no_size (pos (suc n)) e = absurd (omega (arith, eqb-true (suc n) 0 e))
no_size (negsuc n) e = absurd (omega (arith, eqb-true (suc n) 0 e))

nothing_is : (f : Fraction) → IsWhole f → is_nothing f ≡ true → zero ≡ f
nothing_is f h e = λ i. record { num = sym (no_size f.num e) i; den = sym h.whole i }

abbrev Gives : List RowValue → NamedRow → Type 0
Gives gs x = unwrap_or (named gs x.0) zero ≡ x.1.rhs

first_gives : (t : Bool) (x : NamedRow) (gs : List RowValue) → is_nothing x.1.rhs ≡ t → IsWholeRow x → named gs x.0 ≡ None → Gives (cond t [] ((x.0, x.1.rhs) ∷ []) ++ gs) x
first_gives true x gs e h none = ap (λ o. unwrap_or o zero) none ∙ nothing_is x.1.rhs h e
first_gives false x gs e h none = ap (λ t. unwrap_or (cond t (Some x.1.rhs) (named gs x.0)) zero) (own_name x.0)

other_gives : (t : Bool) (x : NamedRow) (gs : List RowValue) (ys : List NamedRow) → has (map row_name ys) x.0 ≡ false → AllByRecursion (Gives gs) ys → AllByRecursion (Gives (cond t [] ((x.0, x.1.rhs) ∷ []) ++ gs)) ys
other_gives t x gs [] d h = tt
other_gives t x gs (y ∷ ys) d h =
    let p = or_parts (bytes_eq x.0 y.0) (has (map row_name ys) x.0) d in
    (by t (other_way x.0 y.0 p.0), other_gives t x gs ys p.1 h.1)
  where
    by : (u : Bool) → bytes_eq y.0 x.0 ≡ false → Gives (cond u [] ((x.0, x.1.rhs) ∷ []) ++ gs) y
    by true e = h.0
    by false e = ap (λ b. unwrap_or (cond b (Some x.1.rhs) (named gs y.0)) zero) e ∙ h.0

all_give : (xs : List NamedRow) → AreDistinct (map row_name xs) → AllByRecursion IsWholeRow xs → AllByRecursion (Gives (rights_of xs)) xs
all_give [] d h = tt
all_give (x ∷ xs) d h = (first_gives (is_nothing x.1.rhs) x (rights_of xs) refl h.0 (not_given xs x.0 d.0), other_gives (is_nothing x.1.rhs) x (rights_of xs) xs d.0 (all_give xs d.1 h.1))

abbrev row_with : List RowValue → NamedRow → Bool → made.Row
row_with gs x b = record { letter = x.1.letter; line = x.1.line; rhs = unwrap_or (named gs x.0) zero; range = cond b None None }

row_by : (gs : List RowValue) (n : ℕ) (x : NamedRow) (b : Bool) → Gives gs x → IsRowOn n x.1 → row_with gs x b ≡ x.1
row_by gs n x true h on = λ i. record { letter = x.1.letter; line = x.1.line; rhs = h i; range = sym on.no_range i }
row_by gs n x false h on = λ i. record { letter = x.1.letter; line = x.1.line; rhs = h i; range = sym on.no_range i }

row_again : (gs : List RowValue) (i n : ℕ) (x : NamedRow) → Gives gs x → IsRowOn n x.1 → deck_row gs [] (numbered_row i x) ≡ x.1
row_again gs i n x h on = row_by gs n x (is_n x.1.letter) h on

each_again : (gs : List RowValue) (i n : ℕ) (xs : List NamedRow) → AllByRecursion (Gives gs) xs → AreRowsFrom n xs → map (deck_row gs []) (numbered i xs) ≡ map row_of xs
each_again gs i n [] h on = refl
each_again gs i n (x ∷ xs) h on = λ k. row_again gs i n x h.0 on.0 k ∷ each_again gs (i + 1) (n + 1) xs h.1 on.1 k

pub rows_again : (n : ℕ) (xs : List NamedRow) → AreDistinct (map row_name xs) → AreRowsFrom n xs → map (deck_row (rights_of xs) []) (numbered 0 xs) ≡ map row_of xs
rows_again n xs d on = each_again (rights_of xs) 0 n xs (all_give xs d (whole_rows n xs on)) on
