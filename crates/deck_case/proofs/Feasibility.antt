-- The points that are feasible for the case are those that the deck allows.
use Rattle.std.proofs.Common.{ℕ, zero, suc, ◌<◌, ◌≡◌, refl, sym, ap, subst, ◌∙◌, inl, inr, arith, ℤ, pos, neg_ℤ, ◌*ℤ◌, ◌≤ℤ◌, List, [], ◌∷◌, ◌++◌, Bool, true, false, cond, length, get_or, map, Option, None, Some, All, slice_get}
use Rattle.std.specs.Prelude.{◌↔◌, ◌⊎◌, IfSome}
use Rattle.std.specs.List.{AllByRecursion, enumerate_from, flat_map}
use Rattle.std.specs.Ordering.{int_eq}
use Rattle.std.specs.Option.{option_map, option_to_list}
use Rattle.std.proofs.Math.IntN.{+ℤ_idr, zero-*ℤ}
use Rattle.std.proofs.lemmas.Bool.{cases_Bool, cases_eq, true≢false}
use Rattle.std.proofs.lemmas.Bool.Decides.{Decides-int_eq}
use Rattle.std.proofs.lemmas.Int.{ints}
use Rattle.std.proofs.lemmas.List.{get_or-map, length-map}
use Rattle.std.proofs.lemmas.List.Elements.{All-nil, All-cons, All-head, All-append, All-map, All-from_recursion, recursion_from_All}
use Rattle.std.proofs.lemmas.List.FromFn.{get_or-enumerate_from, length-enumerate_from}
use Rattle.std.proofs.lemmas.Option.{slice_get_within, slice_get-get_or, get_or_from_slice_get, same_Some}
use Rattle.lp_base.proofs.Ring.{mul_comm}
use Rattle.lp_nums.specs.Fractions.{Fraction, SameValue}
use Rattle.lpcc_case.specs.declared.constraint.Constraint.{Constraint}
use Rattle.lpcc_case.specs.Instance.{constraint_at, no_constraint}
use Rattle.lpcc_case.specs.Points.{Point, IsFeasible, IsTight, Meets, left_side}
use Rattle.decks.specs.Decks.{IsColumn, IsDeck, NamesQuantity, entries_of, group_pairs, pairs_made, twos}
use Rattle.decks.specs.Decks as decks
use Rattle.decks.specs.declared.deck.Column.{Column}
use Rattle.decks.specs.declared.deck.Deck.{Deck}
use Rattle.decks.specs.declared.deck.Entry.{Entry}
use Rattle.decks.specs.declared.deck.GroupLine.{GroupLine}
use Rattle.decks.specs.declared.deck.PairLine.{PairLine}
use Rattle.decks.specs.declared.deck.Letter.{Letter}
use Rattle.decks.specs.declared.deck.Letter.TheVariants.{N, E, L, G}
use Rattle.decks.specs.declared.deck.Quantity.{Quantity}
use Rattle.decks.specs.declared.deck.Quantity.TheVariants.{Col, Upc, Row}
use Rattle.decks.specs.declared.deck.Row as rows
use Rattle.deck_case.specs.CaseParts.{Terms, at_least, at_most, between_ends, column_constraints, constraints_of, constraints_of_column, constraints_of_row, equal_to, fixed_at, for_bound, lower_bound, negated, row_constraints, row_multiplier, terms_of, upper_bound}
use Rattle.deck_case.specs.DeckCases.{case_of_deck, pair_of, side_number}
use Rattle.deck_case.specs.DeckPoints.{IsOneOffAt, IsWithin, IsZeroAt, MeetsDeck, column_value, row_value}
use Rattle.deck_case.specs.Multipliers.{times}
use Rattle.deck_case.specs.Rationals.{IsAtMost, minus, plus, size, total}
use Rattle.deck_case.specs.Sides.{between, reaches_down, sides}
use Rattle.deck_case.specs.Steps.{IsClearedBy}
use Rattle.deck_case.proofs.BodySteps.{letter_of_objective}
use Rattle.deck_case.proofs.CaseFacts.{All-flat_map, numbered_at}
use Rattle.deck_case.proofs.DeckMeaning.{IsRowSum, row_sum, values_at}
use Rattle.deck_case.proofs.MultiplierSteps.{All-left, All-right}
use Rattle.deck_case.proofs.GroupSteps.{Both, Decided, Either, both_of_twos, one_off_from, one_off_to}
use Rattle.deck_case.proofs.Places.{column_side_at, row_side_at, side_of, side_row, upper_side_at}
use Rattle.deck_case.proofs.RationalLaws.{IsWhole, at_most_iff, over_whole, same_iff, whole_above, whole_below, whole_cleared}
use Rattle.deck_case.proofs.RowSteps.{entries_cleared, made_of, range_cleared, rhs_cleared, row_positive}
use Rattle.deck_case.proofs.SideSteps.{negated_product}
use Rattle.deck_case.proofs.TermFacts.{row_numbers}

-- ---- parts of lists

-- each piece of a joined list
All-piece : {X A : Type 0} (P : A → Type 0) (f : X → List A) (xs : List X) (i : ℕ) (d : X) → All P (flat_map f xs) → i < length xs → All P (f (get_or xs i d))
All-piece P f [] i d h l = absurd (omega arith)
All-piece P f (x ∷ xs) zero d h l = All-left P (f x) (flat_map f xs) h
All-piece P f (x ∷ xs) (suc i) d h l = All-piece P f xs i d (All-right P (f x) (flat_map f xs) h) (omega arith)

All-unmap : {X Y : Type 0} (P : Y → Type 0) (f : X → Y) (xs : List X) → All P (map f xs) → All (λ x. P (f x)) xs
All-unmap P f xs h k d l = subst P (get_or-map f xs k d (f d) l) (h k (f d) (omega (arith, length-map xs f)))

one_iff : {X : Type 0} (P : X → Type 0) (x : X) (Q : Type 0) → P x ↔ Q → All P (x ∷ []) ↔ Q
one_iff P x Q h = (λ all. h.0 (All-head P x [] all), λ q. All-cons P x [] (h.1 q) (All-nil P))

-- ---- signs

left_negated : (ts : Terms) (x : List ℤ) → left_side (negated ts) x ≡ neg_ℤ (left_side ts x)
left_negated [] x = refl
left_negated (t ∷ ts) x = omega (arith, ints, negated_product t.1 (get_or x t.0 (pos 0)), left_negated ts x)

turned_le : (a b : ℤ) → (neg_ℤ a ≤ℤ neg_ℤ b) ↔ (b ≤ℤ a)
turned_le a b = (λ h. omega (arith, ints, h), λ h. omega (arith, ints, h))

turned_same : (a b : ℤ) → (neg_ℤ a ≡ neg_ℤ b) ↔ (a ≡ b)
turned_same a b = (λ h. omega (arith, ints, h), λ h. ap neg_ℤ h)

le_same : (a b : ℤ) → a ≡ b → a ≤ℤ b
le_same a b h = omega (arith, ints, h)

same_from_le : (a b : ℤ) → a ≤ℤ b → b ≤ℤ a → a ≡ b
same_from_le a b h k = omega (arith, ints, h, k)

chain : {A B C : Type 0} → A ↔ B → B ↔ C → A ↔ C
chain f g = (λ a. g.0 (f.0 a), λ c. f.1 (g.1 c))

by_equal : (P : ℤ → ℤ → Type 0) (a b c d : ℤ) → a ≡ c → b ≡ d → P a b ↔ P c d
by_equal P a b c d e f = (λ h. subst (P c) f (subst (λ z. P z b) e h), λ h. subst (P a) (sym f) (subst (λ z. P z d) (sym e) h))

-- ---- one end of a row

least_iff : {n : ℕ} (m : ℕ) (p : Point n) (es : List Entry) (b : Fraction) → IsRowSum m p es → IsWhole m b → Meets p (at_least (terms_of m es) (times m b)) ↔ IsAtMost b (total (values_at p es))
least_iff m p es b sum whole =
    let iff = at_most_iff (times m b *ℤ pos p.d) (left_side (terms_of m es) p.x) (pos m *ℤ pos p.d) b (total (values_at p es)) whole.positive sum.positive sum.common (over_whole m p.d b whole) sum.over in
    (iff.1, iff.0)

most_iff : {n : ℕ} (m : ℕ) (p : Point n) (es : List Entry) (b : Fraction) → IsRowSum m p es → IsWhole m b → Meets p (at_most (terms_of m es) (times m b)) ↔ IsAtMost (total (values_at p es)) b
most_iff m p es b sum whole =
    let u = times m b *ℤ pos p.d in
    let w = left_side (terms_of m es) p.x in
    let iff = at_most_iff w u (pos m *ℤ pos p.d) (total (values_at p es)) b sum.positive whole.positive sum.common sum.over (over_whole m p.d b whole) in
    chain (by_equal (λ l r. l ≤ℤ r) (neg_ℤ (times m b) *ℤ pos p.d) (left_side (negated (terms_of m es)) p.x) (neg_ℤ u) (neg_ℤ w) (negated_product (times m b) (pos p.d)) (left_negated (terms_of m es) p.x))
    (chain (turned_le u w) (iff.1, iff.0))

-- ---- a row

abbrev MeetsList : {n : ℕ} → Point n → List Constraint → Type 0
MeetsList p cs = All (Meets p) cs

lower_iff : {n : ℕ} (m : ℕ) (p : Point n) (es : List Entry) (lower : Option Fraction) → IsRowSum m p es → IfSome lower (IsWhole m) → MeetsList p (option_to_list (option_map (at_least (terms_of m es)) (option_map (times m) lower))) ↔ IfSome lower (λ b. IsAtMost b (total (values_at p es)))
lower_iff m p es None sum whole = (λ _. tt, λ _. All-nil (Meets p))
lower_iff m p es (Some b) sum whole = one_iff (Meets p) (at_least (terms_of m es) (times m b)) (IsAtMost b (total (values_at p es))) (least_iff m p es b sum whole)

upper_iff : {n : ℕ} (m : ℕ) (p : Point n) (es : List Entry) (upper : Option Fraction) → IsRowSum m p es → IfSome upper (IsWhole m) → MeetsList p (option_to_list (option_map (at_most (terms_of m es)) (option_map (times m) upper))) ↔ IfSome upper (λ b. IsAtMost (total (values_at p es)) b)
upper_iff m p es None sum whole = (λ _. tt, λ _. All-nil (Meets p))
upper_iff m p es (Some b) sum whole = one_iff (Meets p) (at_most (terms_of m es) (times m b)) (IsAtMost (total (values_at p es)) b) (most_iff m p es b sum whole)

between_iff : {n : ℕ} (m : ℕ) (p : Point n) (es : List Entry) (lower upper : Option Fraction) → IsRowSum m p es → IfSome lower (IsWhole m) → IfSome upper (IsWhole m) → MeetsList p (between_ends (terms_of m es) (option_map (times m) lower) (option_map (times m) upper)) ↔ IsWithin lower upper (total (values_at p es))
between_iff m p es lower upper sum wl wu =
    let low = option_to_list (option_map (at_least (terms_of m es)) (option_map (times m) lower)) in
    let high = option_to_list (option_map (at_most (terms_of m es)) (option_map (times m) upper)) in
    let l = lower_iff m p es lower sum wl in
    let u = upper_iff m p es upper sum wu in (
      λ h. record { above = l.0 (All-left (Meets p) low high h); below = u.0 (All-right (Meets p) low high h) },
      λ h. All-append (Meets p) low high (l.1 h.above) (u.1 h.below),
    )

equal_iff : {n : ℕ} (m : ℕ) (p : Point n) (es : List Entry) (b : Fraction) → IsRowSum m p es → IsWhole m b → MeetsList p (equal_to (terms_of m es) (times m b) ∷ []) ↔ IsWithin (Some b) (Some b) (total (values_at p es))
equal_iff m p es b sum whole =
    let u = times m b *ℤ pos p.d in
    let w = left_side (terms_of m es) p.x in
    let low = at_most_iff u w (pos m *ℤ pos p.d) b (total (values_at p es)) whole.positive sum.positive sum.common (over_whole m p.d b whole) sum.over in
    let high = at_most_iff w u (pos m *ℤ pos p.d) (total (values_at p es)) b sum.positive whole.positive sum.common sum.over (over_whole m p.d b whole) in
    one_iff (Meets p) (equal_to (terms_of m es) (times m b)) (IsWithin (Some b) (Some b) (total (values_at p es))) (
      λ e. record { above = low.1 (le_same u w (sym e)); below = high.1 (le_same w u e) },
      λ h. same_from_le w u (high.0 h.below) (low.0 h.above),
    )

both_whole : (m : ℕ) (t : Bool) (b r : Fraction) → IsClearedBy m b → IsClearedBy m r → IfSome (cond t (between (Some (minus b (size r))) (Some b)) (between (Some b) (Some (plus b (size r))))).lower (IsWhole m) × IfSome (cond t (between (Some (minus b (size r))) (Some b)) (between (Some b) (Some (plus b (size r))))).upper (IsWhole m)
both_whole m true b r p q = (whole_below m b r p q, whole_cleared m b p)
both_whole m false b r p q = (whole_cleared m b p, whole_above m b r p q)

row_iff : {n : ℕ} (m : ℕ) (p : Point n) (es : List Entry) (letter : Letter) (b : Fraction) (range : Option Fraction) → IsRowSum m p es → IsClearedBy m b → IfSome range (IsClearedBy m) → MeetsList p (made_of letter b range m (terms_of m es)) ↔ IsWithin (sides letter b range).lower (sides letter b range).upper (total (values_at p es))
row_iff m p es N b range sum c cr = (λ _. record { above = tt; below = tt }, λ _. All-nil (Meets p))
row_iff m p es E b None sum c cr = equal_iff m p es b sum (whole_cleared m b c)
row_iff m p es L b None sum c cr = between_iff m p es None (Some b) sum tt (whole_cleared m b c)
row_iff m p es G b None sum c cr = between_iff m p es (Some b) None sum (whole_cleared m b c) tt
row_iff m p es E b (Some r) sum c cr =
    let w = both_whole m (reaches_down E r) b r c cr in
    between_iff m p es (sides E b (Some r)).lower (sides E b (Some r)).upper sum w.0 w.1
row_iff m p es L b (Some r) sum c cr = between_iff m p es (Some (minus b (size r))) (Some b) sum (whole_below m b r c cr) (whole_cleared m b c)
row_iff m p es G b (Some r) sum c cr = between_iff m p es (Some b) (Some (plus b (size r))) sum (whole_cleared m b c) (whole_above m b r c cr)

-- the facts of a row of a deck
sum_of_row : (d : Deck) (p : Point (length d.columns)) (k : ℕ) (r : rows.Row) → IsDeck d → slice_get d.rows k ≡ Some r → IsRowSum (row_multiplier (entries_of d.entries k) r) p (entries_of d.entries k)
sum_of_row d p k r h there =
    let es = entries_of d.entries k in
    let m = row_multiplier es r in
    let numbers = row_numbers d k r h there in
    row_sum m p es (row_positive r.rhs r.range es m numbers refl) (entries_cleared r.rhs r.range es m numbers refl)

deck_row_iff : (d : Deck) (p : Point (length d.columns)) (k : ℕ) (r : rows.Row) → IsDeck d → slice_get d.rows k ≡ Some r → MeetsList p (constraints_of_row (entries_of d.entries k) r) ↔ IsWithin (sides r.letter r.rhs r.range).lower (sides r.letter r.rhs r.range).upper (row_value d k p)
deck_row_iff d p k r h there =
    let es = entries_of d.entries k in
    let m = row_multiplier es r in
    let numbers = row_numbers d k r h there in
    row_iff m p es r.letter r.rhs r.range (sum_of_row d p k r h there) (rhs_cleared r.rhs r.range es m numbers refl) (range_cleared r.rhs r.range es m numbers refl)

abbrev row_made : List Entry → ℕ × rows.Row → List Constraint
row_made entries q = constraints_of_row (entries_of entries q.0) q.1

row_of_case : (d : Deck) (p : Point (length d.columns)) → IsDeck d → MeetsList p (row_constraints d) → (k : ℕ) (r : rows.Row) → slice_get d.rows k ≡ Some r → IsWithin (sides r.letter r.rhs r.range).lower (sides r.letter r.rhs r.range).upper (row_value d k p)
row_of_case d p h met k r there =
    let within = slice_get_within d.rows k r there in
    let here : get_or (enumerate_from 0 d.rows) k (0, r) ≡ (k, r) = numbered_at d k (0, r) within ∙ ap (λ q. (k, q)) (get_or_from_slice_get d.rows k r r there) in
    let piece = All-piece (Meets p) (row_made d.entries) (enumerate_from 0 d.rows) k (0, r) met (omega (arith, length-enumerate_from 0 d.rows)) in
    (deck_row_iff d p k r h there).0 (subst (λ q. MeetsList p (row_made d.entries q)) here piece)

nothing_asked : (d : Deck) (p : Point (length d.columns)) (k : ℕ) (r : rows.Row) → r.letter ≡ N → IsWithin (sides r.letter r.rhs r.range).lower (sides r.letter r.rhs r.range).upper (row_value d k p)
nothing_asked d p k r e = subst (λ l. IsWithin (sides l r.rhs r.range).lower (sides l r.rhs r.range).upper (row_value d k p)) (sym e) (record { above = tt; below = tt })

rows_of_deck : (d : Deck) (p : Point (length d.columns)) → IsDeck d → MeetsDeck d p → MeetsList p (row_constraints d)
rows_of_deck d p h m =
    All-flat_map (Meets p) (row_made d.entries) (enumerate_from 0 d.rows) (λ k q l.
    let within : k < length d.rows = omega (arith, length-enumerate_from 0 d.rows) in
    let r = get_or d.rows k q.1 in
    let there : slice_get d.rows k ≡ Some r = slice_get-get_or d.rows k q.1 within in
    let asked : IsWithin (sides r.letter r.rhs r.range).lower (sides r.letter r.rhs r.range).upper (row_value d k p) = elim (cases_eq k d.objective) [
      | inl same ↦ nothing_asked d p k r (letter_of_objective d k r h there same)
      | inr other ↦ m.rows k r there other
    ] in
    subst (λ x. MeetsList p (row_made d.entries x)) (sym (numbered_at d k q within)) ((deck_row_iff d p k r h there).1 asked))

-- ---- columns

one_term : (z : ℤ) (x : List ℤ) (j : ℕ) → left_side ((j, z) ∷ []) x ≡ get_or x j (pos 0) *ℤ z
one_term z x j = +ℤ_idr (z *ℤ get_or x j (pos 0)) ∙ mul_comm z (get_or x j (pos 0))

lower_bound_iff : {n : ℕ} (p : Point n) (j : ℕ) (f : Fraction) → Meets p (lower_bound j f) ↔ IsAtMost f (column_value p j)
lower_bound_iff p j f = by_equal (λ b a. b ≤ℤ a) (f.num *ℤ pos p.d) (left_side ((j, f.den) ∷ []) p.x) (f.num *ℤ pos p.d) (get_or p.x j (pos 0) *ℤ f.den) refl (one_term f.den p.x j)

upper_bound_iff : {n : ℕ} (p : Point n) (j : ℕ) (f : Fraction) → Meets p (upper_bound j f) ↔ IsAtMost (column_value p j) f
upper_bound_iff p j f =
    let u = f.num *ℤ pos p.d in
    let w = get_or p.x j (pos 0) *ℤ f.den in
    let side : left_side ((j, neg_ℤ f.den) ∷ []) p.x ≡ neg_ℤ w = left_negated ((j, f.den) ∷ []) p.x ∙ ap neg_ℤ (one_term f.den p.x j) in
    chain (by_equal (λ b a. b ≤ℤ a) (neg_ℤ f.num *ℤ pos p.d) (left_side ((j, neg_ℤ f.den) ∷ []) p.x) (neg_ℤ u) (neg_ℤ w) (negated_product f.num (pos p.d)) side) (turned_le u w)

fixed_iff : {n : ℕ} (p : Point n) (j : ℕ) (f : Fraction) → Meets p (fixed_at j f) ↔ IsWithin (Some f) (Some f) (column_value p j)
fixed_iff p j f =
    let u = f.num *ℤ pos p.d in
    let w = get_or p.x j (pos 0) *ℤ f.den in
    let same = one_term f.den p.x j in (
      λ e. record { above = le_same u w (sym e ∙ same); below = le_same w u (sym same ∙ e) },
      λ h. same ∙ same_from_le w u h.below h.above,
    )

low_list : {n : ℕ} (p : Point n) (j : ℕ) (o : Option Fraction) → MeetsList p (for_bound (lower_bound j) o) ↔ IfSome o (λ b. IsAtMost b (column_value p j))
low_list p j None = (λ _. tt, λ _. All-nil (Meets p))
low_list p j (Some f) = one_iff (Meets p) (lower_bound j f) (IsAtMost f (column_value p j)) (lower_bound_iff p j f)

high_list : {n : ℕ} (p : Point n) (j : ℕ) (o : Option Fraction) → MeetsList p (for_bound (upper_bound j) o) ↔ IfSome o (λ b. IsAtMost (column_value p j) b)
high_list p j None = (λ _. tt, λ _. All-nil (Meets p))
high_list p j (Some f) = one_iff (Meets p) (upper_bound j f) (IsAtMost (column_value p j) f) (upper_bound_iff p j f)

column_parts : {n : ℕ} (p : Point n) (j : ℕ) (fixed : Bool) (lower upper : Option Fraction) → (fixed ≡ true → (v : Fraction) × (lower ≡ Some v) × (upper ≡ Some v)) → MeetsList p (cond fixed (for_bound (fixed_at j) lower) (for_bound (lower_bound j) lower ++ for_bound (upper_bound j) upper)) ↔ IsWithin lower upper (column_value p j)
column_parts p j true lower upper one =
    let v = one refl in
    let iff = one_iff (Meets p) (fixed_at j v.0) (IsWithin (Some v.0) (Some v.0) (column_value p j)) (fixed_iff p j v.0) in (
      λ h. subst (λ (o : Option Fraction). IsWithin o upper (column_value p j)) (sym v.1) (subst (λ (o : Option Fraction). IsWithin (Some v.0) o (column_value p j)) (sym v.2) (iff.0 (subst (λ (o : Option Fraction). MeetsList p (for_bound (fixed_at j) o)) v.1 h))),
      λ h. subst (λ (o : Option Fraction). MeetsList p (for_bound (fixed_at j) o)) (sym v.1) (iff.1 (subst (λ (o : Option Fraction). IsWithin (Some v.0) o (column_value p j)) v.2 (subst (λ (o : Option Fraction). IsWithin o upper (column_value p j)) v.1 h))),
    )
column_parts p j false lower upper one =
    let low = for_bound (lower_bound j) lower in
    let high = for_bound (upper_bound j) upper in (
      λ h. record { above = (low_list p j lower).0 (All-left (Meets p) low high h); below = (high_list p j upper).0 (All-right (Meets p) low high h) },
      λ h. All-append (Meets p) low high ((low_list p j lower).1 h.above) ((high_list p j upper).1 h.below),
    )

column_iff : {n : ℕ} (p : Point n) (j : ℕ) (c : Column) → IsColumn c → MeetsList p (constraints_of_column j c) ↔ IsWithin c.lower.value c.upper.value (column_value p j)
column_iff p j c h = column_parts p j c.fixed c.lower.value c.upper.value h.fixed

abbrev column_made : ℕ × Column → List Constraint
column_made q = constraints_of_column q.0 q.1

numbered_column : (d : Deck) (k : ℕ) (e : ℕ × Column) → k < length d.columns → get_or (enumerate_from 0 d.columns) k e ≡ (k, get_or d.columns k e.1)
numbered_column d k e h = get_or-enumerate_from 0 d.columns k e h ∙ ap (λ n. (n, get_or d.columns k e.1)) (omega arith)

column_of_case : (d : Deck) (p : Point (length d.columns)) → IsDeck d → MeetsList p (column_constraints d) → (j : ℕ) (c : Column) → slice_get d.columns j ≡ Some c → IsWithin c.lower.value c.upper.value (column_value p j)
column_of_case d p h met j c there =
    let within = slice_get_within d.columns j c there in
    let col = get_or_from_slice_get d.columns j c c there in
    let here : get_or (enumerate_from 0 d.columns) j (0, c) ≡ (j, c) = numbered_column d j (0, c) within ∙ ap (λ q. (j, q)) col in
    let piece = All-piece (Meets p) column_made (enumerate_from 0 d.columns) j (0, c) met (omega (arith, length-enumerate_from 0 d.columns)) in
    (column_iff p j c (subst IsColumn col (h.columns j c within))).0 (subst (λ q. MeetsList p (column_made q)) here piece)

columns_of_deck : (d : Deck) (p : Point (length d.columns)) → IsDeck d → MeetsDeck d p → MeetsList p (column_constraints d)
columns_of_deck d p h m =
    All-flat_map (Meets p) column_made (enumerate_from 0 d.columns) (λ k q l.
    let within : k < length d.columns = omega (arith, length-enumerate_from 0 d.columns) in
    let c = get_or d.columns k q.1 in
    let there : slice_get d.columns k ≡ Some c = slice_get-get_or d.columns k q.1 within in
    subst (λ x. MeetsList p (column_made x)) (sym (numbered_column d k q within)) ((column_iff p k c (h.columns k q.1 within)).1 (m.columns k c there)))

-- ---- pairs

tight_least : {n : ℕ} (m : ℕ) (p : Point n) (es : List Entry) (b : Fraction) → IsRowSum m p es → IsWhole m b → IsTight p (at_least (terms_of m es) (times m b)) ↔ SameValue (total (values_at p es)) b
tight_least m p es b sum whole =
    let iff = same_iff (times m b *ℤ pos p.d) (left_side (terms_of m es) p.x) (pos m *ℤ pos p.d) b (total (values_at p es)) whole.positive sum.positive sum.common (over_whole m p.d b whole) sum.over in
    (iff.1, iff.0)

tight_most : {n : ℕ} (m : ℕ) (p : Point n) (es : List Entry) (b : Fraction) → IsRowSum m p es → IsWhole m b → IsTight p (at_most (terms_of m es) (times m b)) ↔ SameValue (total (values_at p es)) b
tight_most m p es b sum whole =
    let u = times m b *ℤ pos p.d in
    let w = left_side (terms_of m es) p.x in
    chain (by_equal (λ l r. l ≡ r) (left_side (negated (terms_of m es)) p.x) (neg_ℤ (times m b) *ℤ pos p.d) (neg_ℤ w) (neg_ℤ u) (left_negated (terms_of m es) p.x) (negated_product (times m b) (pos p.d)))
    (chain (turned_same w u) (tight_least m p es b sum whole))

tight_side : {n : ℕ} (m : ℕ) (p : Point n) (es : List Entry) (letter : Letter) (b : Fraction) → IsRowSum m p es → IsWhole m b → IsTight p (side_of letter (terms_of m es) (times m b)) ↔ SameValue (total (values_at p es)) b
tight_side m p es N b sum whole = tight_least m p es b sum whole
tight_side m p es E b sum whole = tight_least m p es b sum whole
tight_side m p es L b sum whole = tight_most m p es b sum whole
tight_side m p es G b sum whole = tight_least m p es b sum whole

-- a constraint that stands at a number
read_at : (d : Deck) (k : ℕ) (c : Constraint) → slice_get (constraints_of d) k ≡ Some c → constraint_at (case_of_deck d) k ≡ c
read_at d k c e = get_or_from_slice_get (constraints_of d) k c no_constraint e

at_read : {n : ℕ} (d : Deck) (p : Point n) (k : ℕ) (c : Constraint) (Q : Type 0) → slice_get (constraints_of d) k ≡ Some c → IsTight p c ↔ Q → IsTight p (constraint_at (case_of_deck d) k) ↔ Q
at_read d p k c Q e iff =
    let here = read_at d k c e in
    (λ t. iff.0 (subst (IsTight p) here t), λ q. subst (IsTight p) (sym here) (iff.1 q))

zero_iff : {n : ℕ} (p : Point n) (j : ℕ) → IsTight p (lower_bound j decks.zero) ↔ (get_or p.x j (pos 0) ≡ pos 0)
zero_iff p j =
    let side : left_side ((j, pos 1) ∷ []) p.x ≡ get_or p.x j (pos 0) = omega (arith, ints, one_term (pos 1) p.x j) in
    let none : pos 0 *ℤ pos p.d ≡ pos 0 = zero-*ℤ (pos p.d) in
    (λ t. sym side ∙ t ∙ none, λ z. side ∙ z ∙ sym none)

row_zero : (d : Deck) (p : Point (length d.columns)) (i : ℕ) (r : rows.Row) → IsDeck d → slice_get d.rows i ≡ Some r → IsTight p (side_row d i r) ↔ IsZeroAt d p (Row i)
row_zero d p i r h there =
    let es = entries_of d.entries i in
    let m = row_multiplier es r in
    let whole = whole_cleared m r.rhs (rhs_cleared r.rhs r.range es m (row_numbers d i r h there) refl) in
    let iff = tight_side m p es r.letter r.rhs (sum_of_row d p i r h there) whole in (
      λ t s e. subst (λ (x : rows.Row). SameValue (row_value d i p) x.rhs) (same_Some r s (sym there ∙ e)) (iff.0 t),
      λ z. iff.1 (z r there),
    )

upper_tight : {n : ℕ} (p : Point n) (j : ℕ) (f : Fraction) → IsTight p (upper_bound j f) ↔ SameValue (column_value p j) f
upper_tight p j f =
    let u = f.num *ℤ pos p.d in
    let w = get_or p.x j (pos 0) *ℤ f.den in
    let side : left_side ((j, neg_ℤ f.den) ∷ []) p.x ≡ neg_ℤ w = left_negated ((j, f.den) ∷ []) p.x ∙ ap neg_ℤ (one_term f.den p.x j) in
    chain (by_equal (λ l r. l ≡ r) (left_side ((j, neg_ℤ f.den) ∷ []) p.x) (neg_ℤ f.num *ℤ pos p.d) (neg_ℤ w) (neg_ℤ u) side (negated_product f.num (pos p.d))) (turned_same w u)

upper_zero : (d : Deck) (p : Point (length d.columns)) (j : ℕ) (c : Column) (f : Fraction) → slice_get d.columns j ≡ Some c → c.upper.value ≡ Some f → IsTight p (upper_bound j f) ↔ IsZeroAt d p (Upc j)
upper_zero d p j c f there upper =
    let iff = upper_tight p j f in (
      λ t b v e g.
          let same : c ≡ b = same_Some c b (sym there ∙ e) in
          let end : f ≡ v = same_Some f v (sym upper ∙ ap (λ (x : Column). x.upper.value) same ∙ g) in
          subst (λ (x : Fraction). SameValue (column_value p j) x) end (iff.0 t),
      λ z. iff.1 (z c f there upper),
    )

side_tight : (d : Deck) (p : Point (length d.columns)) (q : Quantity) → IsDeck d → NamesQuantity d q → IsTight p (constraint_at (case_of_deck d) (side_number d q)) ↔ IsZeroAt d p q
side_tight d p (Col j) h n = at_read d p (side_number d (Col j)) (lower_bound j decks.zero) (IsZeroAt d p (Col j)) (column_side_at d j n.0 decks.zero n.1 n.2 n.3) (zero_iff p j)
side_tight d p (Upc j) h n = at_read d p (side_number d (Upc j)) (upper_bound j n.3.0) (IsZeroAt d p (Upc j)) (upper_side_at d j n.0 n.3.0 n.1 n.2 n.3.1) (upper_zero d p j n.0 n.3.0 n.1 n.3.1)
side_tight d p (Row i) h n = at_read d p (side_number d (Row i)) (side_row d i n.0) (IsZeroAt d p (Row i)) (row_side_at d i n.0 n.1 n.2) (row_zero d p i n.0 h n.1)

both : {A B C D : Type 0} → (A → C) → (B → D) → A ⊎ B → C ⊎ D
both f g (inl a) = inl (f a)
both f g (inr b) = inr (g b)

-- ---- groups

decided_by : {A B : Type 0} → A ↔ B → A ⊎ (A → ⊥) → B ⊎ (B → ⊥)
decided_by iff (inl a) = inl (iff.0 a)
decided_by iff (inr none) = inr (λ b. none (iff.1 b))

same_or_not : (a b : ℤ) → (a ≡ b) ⊎ (a ≡ b → ⊥)
same_or_not a b =
    elim (cases_Bool (int_eq a b)) [
      | inl yes_same ↦ inl ((Decides-int_eq a b).0 yes_same)
      | inr other ↦ inr (λ e. true≢false (sym ((Decides-int_eq a b).1 e) ∙ other))
    ]

zero_decided : (d : Deck) (p : Point (length d.columns)) → IsDeck d → (q : Quantity) → NamesQuantity d q → Decided (IsZeroAt d p) q
zero_decided d p h q n =
    let c = constraint_at (case_of_deck d) (side_number d q) in
    decided_by (side_tight d p q h n) (same_or_not (left_side c.terms p.x) (c.rhs *ℤ pos p.d))

-- a pair of the case is met
abbrev IsMet : (d : Deck) → Point (length d.columns) → PairLine → Type 0
IsMet d p q = IsTight p (constraint_at (case_of_deck d) (side_number d q.a)) ⊎ IsTight p (constraint_at (case_of_deck d) (side_number d q.b))

met_zero : (d : Deck) (p : Point (length d.columns)) (q : PairLine) → IsDeck d → NamesQuantity d q.a → NamesQuantity d q.b → IsMet d p q → Either (IsZeroAt d p) q
met_zero d p q h a b = both (side_tight d p q.a h a).0 (side_tight d p q.b h b).0

zero_met : (d : Deck) (p : Point (length d.columns)) (q : PairLine) → IsDeck d → NamesQuantity d q.a → NamesQuantity d q.b → Either (IsZeroAt d p) q → IsMet d p q
zero_met d p q h a b = both (side_tight d p q.a h a).1 (side_tight d p q.b h b).1

-- what each element of two lists has
both_lists : {X : Type 0} (P Q R : X → Type 0) (f : (x : X) → P x → Q x → R x) (xs : List X) → AllByRecursion P xs → AllByRecursion Q xs → AllByRecursion R xs
both_lists P Q R f [] a b = tt
both_lists P Q R f (x ∷ xs) a b = (f x a.0 b.0, both_lists P Q R f xs a.1 b.1)

each_list : {X : Type 0} (P Q : X → Type 0) (f : (x : X) → P x → Q x) (xs : List X) → AllByRecursion P xs → AllByRecursion Q xs
each_list P Q f [] a = tt
each_list P Q f (x ∷ xs) a = (f x a.0, each_list P Q f xs a.1)

group_of_case : (d : Deck) (p : Point (length d.columns)) (items : List Quantity) → IsDeck d → All (NamesQuantity d) items → All (IsMet d p) (twos items) → IsOneOffAt d p items
group_of_case d p items h named met =
    one_off_from (IsZeroAt d p) items
    (both_lists (Both (NamesQuantity d)) (IsMet d p) (Either (IsZeroAt d p)) (λ q n m. met_zero d p q h n.0 n.1 m) (twos items) (both_of_twos (NamesQuantity d) items (recursion_from_All (NamesQuantity d) items named)) (recursion_from_All (IsMet d p) (twos items) met))

group_of_deck : (d : Deck) (p : Point (length d.columns)) (items : List Quantity) → IsDeck d → All (NamesQuantity d) items → IsOneOffAt d p items → All (IsMet d p) (twos items)
group_of_deck d p items h named off =
    let names = recursion_from_All (NamesQuantity d) items named in
    let zeros = one_off_to (IsZeroAt d p) items (each_list (NamesQuantity d) (Decided (IsZeroAt d p)) (zero_decided d p h) items names) off in
    All-from_recursion (IsMet d p) (twos items)
    (both_lists (Both (NamesQuantity d)) (Either (IsZeroAt d p)) (IsMet d p) (λ q n z. zero_met d p q h n.0 n.1 z) (twos items) (both_of_twos (NamesQuantity d) items names) zeros)

abbrev twos_of : GroupLine → List PairLine
twos_of g = twos g.items

-- ---- the law

pub feasible_law : (d : Deck) (p : Point (length d.columns)) → IsDeck d → IsFeasible (case_of_deck d) p ↔ MeetsDeck d p
feasible_law d p h =
    let a = case_of_deck d in
    let IsPairMet = λ (pair : ℕ × ℕ). IsTight p (constraint_at a pair.0) ⊎ IsTight p (constraint_at a pair.1) in (
      λ f.
          let all : All (IsMet d p) (pairs_made d) = All-unmap IsPairMet (pair_of d) (pairs_made d) f.complementary in
          let own = All-left (IsMet d p) d.pairs (group_pairs d.groups) all in
          let grouped = All-right (IsMet d p) d.pairs (group_pairs d.groups) all in
          record {
            rows = λ k r there _. row_of_case d p h (All-left (Meets p) (row_constraints d) (column_constraints d) f.met) k r there;
            columns = column_of_case d p h (All-right (Meets p) (row_constraints d) (column_constraints d) f.met);
            pairs = λ i q l. let names = h.pairs_named i q l in met_zero d p (get_or d.pairs i q) h names.0 names.1 (own i q l);
            groups = λ i g l. group_of_case d p (get_or d.groups i g).items h (h.groups_named i g l) (All-piece (IsMet d p) twos_of d.groups i g grouped l);
          },
      λ m.
          let own : All (IsMet d p) d.pairs = λ i q l. (let names = h.pairs_named i q l in zero_met d p (get_or d.pairs i q) h names.0 names.1 (m.pairs i q l)) in
          let grouped : All (IsMet d p) (group_pairs d.groups) = All-flat_map (IsMet d p) twos_of d.groups (λ i g l. group_of_deck d p (get_or d.groups i g).items h (h.groups_named i g l) (m.groups i g l)) in
          record {
            met = All-append (Meets p) (row_constraints d) (column_constraints d) (rows_of_deck d p h m) (columns_of_deck d p h m);
            complementary = All-map IsPairMet (pair_of d) (pairs_made d) (All-append (IsMet d p) d.pairs (group_pairs d.groups) own grouped);
          },
    )
