-- The case of a deck in which nothing is too wide keeps the limits of a case.
use Rattle.std.proofs.Common.{ℕ, ◌+◌, ◌<◌, ◌≤◌, ◌≡◌, ◌≢◌, refl, sym, ap, subst, ◌∙◌, inl, inr, arith, ℤ, pos, neg_ℤ, ◌≤ℤ◌, List, [], ◌∷◌, ◌++◌, Bool, true, false, ◌||◌, cond, length, get_or, map, Option, None, Some, All, slice_get}
use Rattle.std.specs.Prelude.{IsTrue, IfSome, unsigned_abs}
use Rattle.std.specs.List.{enumerate_from, flat_map, range_with_len}
use Rattle.std.specs.Option.{option_map}
use Rattle.std.proofs.lemmas.Bool.{cases_Bool}
use Rattle.std.proofs.lemmas.Int.{ints}
use Rattle.std.proofs.lemmas.List.{get_or-map, length-map}
use Rattle.std.proofs.lemmas.List.Elements.{All-nil, All-cons, All-head, All-tail, All-append, All-map, All-from_recursion, recursion_from_All}
use Rattle.std.proofs.lemmas.List.FromFn.{length-range_with_len, length-map-range_with_len, get_or-range_with_len, length-enumerate_from, get_or-enumerate_from}
use Rattle.std.proofs.lemmas.Option.{slice_get_within, slice_get-get_or, get_or_from_slice_get}
use Rattle.lp_base.specs.Ascending.{ascends_by, number_of}
use Rattle.lp_nums.specs.Fractions.{Fraction}
use Rattle.lpcc_case.specs.declared.constraint.Constraint.{Constraint}
use Rattle.sense.specs.declared.objective.Sense.{Sense}
use Rattle.sense.specs.Senses.{signed}
use Rattle.lpcc_case.specs.Cases.{IsCase, IsConstraint, FitsCase, NamesInequality, instance_of}
use Rattle.lpcc_case.specs.Points.{coefficient}
use Rattle.decks.specs.Decks.{IsDeck, IsDeckNumber, IsColumn, NamesQuantity, entries_of, group_pairs, pairs_made, twos}
use Rattle.decks.specs.declared.deck.Bound.{Bound}
use Rattle.decks.specs.declared.deck.Column.{Column}
use Rattle.decks.specs.declared.deck.Deck.{Deck}
use Rattle.decks.specs.declared.deck.Entry.{Entry}
use Rattle.decks.specs.declared.deck.GroupLine.{GroupLine}
use Rattle.decks.specs.declared.deck.Letter.{Letter}
use Rattle.decks.specs.declared.deck.Letter.TheVariants.{N, E, L, G}
use Rattle.decks.specs.declared.deck.Row.{Row}
use Rattle.deck_case.specs.CaseParts.{Terms, at_least, at_most, between_ends, coefficients, column_constraints, constraints_of, constraints_of_column, constraints_of_row, cost_of, cost_terms, equal_to, fixed_at, for_bound, is_equation, lower_bound, negated, numbers_of, offset_of, row_constraints, row_multiplier, scale_of, terms_of, upper_bound}
use Rattle.deck_case.specs.DeckCases.{case_of_deck, pair_of}
use Rattle.deck_case.specs.DeckPoints.{row_at}
use Rattle.deck_case.specs.Multipliers.{times}
use Rattle.deck_case.specs.Sides.{sides}
use Rattle.deck_case.specs.Wide.{has_wide, is_wide, judged_numbers, named, whole_numbers, wide_bound, wide_column, wide_lines, wide_row, wide_rows}
use Rattle.deck_case.proofs.BodySteps.{row_at_is}
use Rattle.deck_case.proofs.CostSteps.{coefficient_keeps}
use Rattle.deck_case.proofs.GroupSteps.{Both, both_of_twos}
use Rattle.deck_case.proofs.Places.{side_named}
use Rattle.deck_case.proofs.SignLaws.{signed_fits}
use Rattle.deck_case.proofs.Rising.{ascends-map}
use Rattle.deck_case.proofs.RowSteps.{entries_cleared, made_of, not_wide, or_left_false, or_right_false, row_positive}
use Rattle.deck_case.proofs.TermFacts.{entries_named, row_numbers, terms_ascend, terms_named, terms_nonzero, without_range}
use Rattle.deck_case.proofs.TermSteps.{named_wide, wide_append}

-- ---- no lines

pub nil_left : {X : Type 0} (xs ys : List X) → xs ++ ys ≡ [] → xs ≡ []
nil_left [] ys h = refl
nil_left (x ∷ xs) ys h = absurd (cc)

pub nil_right : {X : Type 0} (xs ys : List X) → xs ++ ys ≡ [] → ys ≡ []
nil_right [] ys h = h
nil_right (x ∷ xs) ys h = absurd (cc)

-- a joined list is empty only where each part is
pub nil_each : {X A : Type 0} (f : X → List A) (xs : List X) → flat_map f xs ≡ [] → All (λ x. f x ≡ []) xs
nil_each f [] h = All-nil (λ x. f x ≡ [])
nil_each f (x ∷ xs) h = All-cons (λ x. f x ≡ []) x xs (nil_left (f x) (flat_map f xs) h) (nil_each f xs (nil_right (f x) (flat_map f xs) h))

pub named_none : (line : ℕ) (numbers : List ℤ) → named line numbers ≡ [] → has_wide numbers ≡ false
named_none line numbers h =
    elim (cases_Bool (has_wide numbers)) [
      | inl wide ↦
          let e : line ∷ [] ≡ [] = sym (named_wide line numbers wide) ∙ h in
          absurd (cc)
      | inr small ↦ small
    ]

-- each number fits
pub all_fit : (numbers : List ℤ) → has_wide numbers ≡ false → All FitsCase numbers
all_fit [] h = All-nil FitsCase
all_fit (z ∷ zs) h = All-cons FitsCase z zs (not_wide z (or_left_false (is_wide z) (has_wide zs) h)) (all_fit zs (or_right_false (is_wide z) (has_wide zs) h))

-- in each constraint
pub each_narrow : (cs : List Constraint) → has_wide (flat_map whole_numbers cs) ≡ false → All (λ c. has_wide (whole_numbers c) ≡ false) cs
each_narrow [] h = All-nil (λ c. has_wide (whole_numbers c) ≡ false)
each_narrow (c ∷ cs) h =
    let parts : (has_wide (whole_numbers c) || has_wide (flat_map whole_numbers cs)) ≡ false = sym (wide_append (whole_numbers c) (flat_map whole_numbers cs)) ∙ h in
    All-cons (λ c. has_wide (whole_numbers c) ≡ false) c cs (or_left_false (has_wide (whole_numbers c)) (has_wide (flat_map whole_numbers cs)) parts)
    (each_narrow cs (or_right_false (has_wide (whole_numbers c)) (has_wide (flat_map whole_numbers cs)) parts))

-- ---- constraints

-- the terms are such as a case takes, whatever their size
pub record IsShaped (n : ℕ) (ts : Terms) : Type 0 where
  pub ascending : IsTrue (ascends_by number_of ts)
  pub columns_named : All (λ t. t.0 < n) ts
  pub nonzero : All (λ t. t.1 ≢ pos 0) ts

negative_nonzero : (z : ℤ) → z ≢ pos 0 → neg_ℤ z ≢ pos 0
negative_nonzero z h e = h (omega (arith, ints, ap unsigned_abs e))

pub negated_shaped : (n : ℕ) (ts : Terms) → IsShaped n ts → IsShaped n (negated ts)
negated_shaped n ts h = record {
  ascending = ascends-map number_of (λ (t : ℕ × ℤ). (t.0, neg_ℤ t.1)) ts ∙ h.ascending;
  columns_named = All-map (λ t. t.0 < n) (λ (t : ℕ × ℤ). (t.0, neg_ℤ t.1)) ts h.columns_named;
  nonzero = All-map (λ t. t.1 ≢ pos 0) (λ (t : ℕ × ℤ). (t.0, neg_ℤ t.1)) ts (λ i d l. negative_nonzero (get_or ts i d).1 (h.nonzero i d l));
}

abbrev pub Shaped : ℕ → Constraint → Type 0
Shaped n c = IsShaped n c.terms

pub fits_from : (n : ℕ) (c : Constraint) → Shaped n c → has_wide (whole_numbers c) ≡ false → IsConstraint n c
fits_from n c shape narrow =
    let all = all_fit (whole_numbers c) narrow in record {
      ascending = shape.ascending;
      columns_named = shape.columns_named;
      coefficients = λ i d l. (
        subst FitsCase (get_or-map (λ (t : ℕ × ℤ). t.1) c.terms i d d.1 l) (All-tail FitsCase c.rhs (coefficients c.terms) all i d.1 (omega (arith, length-map c.terms (λ (t : ℕ × ℤ). t.1)))),
        shape.nonzero i d l,
      );
      right = All-head FitsCase c.rhs (coefficients c.terms) all;
    }

ends_shaped : (n : ℕ) (ts : Terms) (lower upper : Option ℤ) → IsShaped n ts → All (Shaped n) (between_ends ts lower upper)
ends_shaped n ts None None h = All-nil (Shaped n)
ends_shaped n ts None (Some u) h = All-cons (Shaped n) (at_most ts u) [] (negated_shaped n ts h) (All-nil (Shaped n))
ends_shaped n ts (Some l) None h = All-cons (Shaped n) (at_least ts l) [] h (All-nil (Shaped n))
ends_shaped n ts (Some l) (Some u) h = All-cons (Shaped n) (at_least ts l) (at_most ts u ∷ []) h (All-cons (Shaped n) (at_most ts u) [] (negated_shaped n ts h) (All-nil (Shaped n)))

chosen_all : {X : Type 0} (P : X → Type 0) (b : Bool) (xs ys : List X) → All P xs → All P ys → All P (cond b xs ys)
chosen_all P true xs ys h k = h
chosen_all P false xs ys h k = k

pub row_shaped : (n : ℕ) (es : List Entry) (r : Row) → IsShaped n (terms_of (row_multiplier es r) es) → All (Shaped n) (constraints_of_row es r)
row_shaped n es r h =
    let m = row_multiplier es r in
    let ts = terms_of m es in
    let s = sides r.letter r.rhs r.range in
    chosen_all (Shaped n) (is_equation r.letter r.range) (equal_to ts (times m r.rhs) ∷ []) (between_ends ts (option_map (times m) s.lower) (option_map (times m) s.upper))
    (All-cons (Shaped n) (equal_to ts (times m r.rhs)) [] h (All-nil (Shaped n)))
    (ends_shaped n ts (option_map (times m) s.lower) (option_map (times m) s.upper) h)

-- ---- the rows

-- a row with its place
pub numbered_at : (d : Deck) (k : ℕ) (e : ℕ × Row) → k < length d.rows → get_or (enumerate_from 0 d.rows) k e ≡ (k, get_or d.rows k e.1)
numbered_at d k e h = get_or-enumerate_from 0 d.rows k e h ∙ ap (λ n. (n, get_or d.rows k e.1)) (omega arith)

pub row_quiet : (d : Deck) (k : ℕ) (r : Row) → wide_rows d.entries (enumerate_from 0 d.rows) ≡ [] → slice_get d.rows k ≡ Some r → has_wide (judged_numbers r.letter (entries_of d.entries k) r) ≡ false
row_quiet d k r none there =
    let lines : ℕ × Row → List ℕ = λ q. wide_row (entries_of d.entries q.0) q.1 in
    let within = slice_get_within d.rows k r there in
    let here : get_or (enumerate_from 0 d.rows) k (0, r) ≡ (k, r) = numbered_at d k (0, r) within ∙ ap (λ x. (k, x)) (get_or_from_slice_get d.rows k r r there) in
    let quiet = nil_each lines (enumerate_from 0 d.rows) none k (0, r) (omega (arith, length-enumerate_from 0 d.rows)) in
    named_none r.line (judged_numbers r.letter (entries_of d.entries k) r) (ap lines (sym here) ∙ quiet)

pub row_terms_shaped : (d : Deck) (k : ℕ) (r : Row) → IsDeck d → slice_get d.rows k ≡ Some r → IsShaped (length d.columns) (terms_of (row_multiplier (entries_of d.entries k) r) (entries_of d.entries k))
row_terms_shaped d k r h there =
    let es = entries_of d.entries k in
    let m = row_multiplier es r in
    let numbers = row_numbers d k r h there in record {
      ascending = terms_ascend m es (h.ascending k);
      columns_named = terms_named m (length d.columns) es (entries_named d k h);
      nonzero = terms_nonzero m es (row_positive r.rhs r.range es m numbers refl) (entries_cleared r.rhs r.range es m numbers refl);
    }

both_facts : (n : ℕ) (cs : List Constraint) → All (Shaped n) cs → All (λ c. has_wide (whole_numbers c) ≡ false) cs → All (IsConstraint n) cs
both_facts n cs h k i d l = fits_from n (get_or cs i d) (h i d l) (k i d l)

-- a row that is not the objective
other_fits : (n : ℕ) (letter : Letter) (es : List Entry) (r : Row) → r.letter ≡ letter → IsShaped n (terms_of (row_multiplier es r) es) → has_wide (judged_numbers letter es r) ≡ false → All (IsConstraint n) (constraints_of_row es r)
other_fits n N es r e shape quiet =
    let none : constraints_of_row es r ≡ [] = ap (λ l. made_of l r.rhs r.range (row_multiplier es r) (terms_of (row_multiplier es r) es)) e in
    subst (All (IsConstraint n)) (sym none) (All-nil (IsConstraint n))
other_fits n E es r e shape quiet = both_facts n (constraints_of_row es r) (row_shaped n es r shape) (each_narrow (constraints_of_row es r) (or_right_false (is_wide (pos (row_multiplier es r))) (has_wide (flat_map whole_numbers (constraints_of_row es r))) quiet))
other_fits n L es r e shape quiet = both_facts n (constraints_of_row es r) (row_shaped n es r shape) (each_narrow (constraints_of_row es r) (or_right_false (is_wide (pos (row_multiplier es r))) (has_wide (flat_map whole_numbers (constraints_of_row es r))) quiet))
other_fits n G es r e shape quiet = both_facts n (constraints_of_row es r) (row_shaped n es r shape) (each_narrow (constraints_of_row es r) (or_right_false (is_wide (pos (row_multiplier es r))) (has_wide (flat_map whole_numbers (constraints_of_row es r))) quiet))

pub All-flat_map : {X A : Type 0} (P : A → Type 0) (f : X → List A) (xs : List X) → All (λ x. All P (f x)) xs → All P (flat_map f xs)
All-flat_map P f [] h = All-nil P
All-flat_map P f (x ∷ xs) h = All-append P (f x) (flat_map f xs) (All-head (λ y. All P (f y)) x xs h) (All-flat_map P f xs (All-tail (λ y. All P (f y)) x xs h))

rows_fit : (d : Deck) → IsDeck d → wide_rows d.entries (enumerate_from 0 d.rows) ≡ [] → All (IsConstraint (length d.columns)) (row_constraints d)
rows_fit d h none =
    let made : ℕ × Row → List Constraint = λ q. constraints_of_row (entries_of d.entries q.0) q.1 in
    All-flat_map (IsConstraint (length d.columns)) made (enumerate_from 0 d.rows) (λ k q l.
    let within : k < length d.rows = omega (arith, length-enumerate_from 0 d.rows) in
    let r = get_or d.rows k q.1 in
    let there : slice_get d.rows k ≡ Some r = slice_get-get_or d.rows k q.1 within in
    let fit = other_fits (length d.columns) r.letter (entries_of d.entries k) r refl (row_terms_shaped d k r h there) (row_quiet d k r none there) in
    subst (λ x. All (IsConstraint (length d.columns)) (made x)) (sym (numbered_at d k q within)) fit)

-- ---- the columns

one_shaped : (n j : ℕ) (z : ℤ) → j < n → z ≢ pos 0 → IsShaped n ((j, z) ∷ [])
one_shaped n j z h k = record {
  ascending = refl;
  columns_named = All-cons (λ t. t.0 < n) (j, z) [] h (All-nil (λ t. t.0 < n));
  nonzero = All-cons (λ t. t.1 ≢ pos 0) (j, z) [] k (All-nil (λ t. t.1 ≢ pos 0));
}

positive_nonzero : (z : ℤ) → pos 1 ≤ℤ z → z ≢ pos 0
positive_nonzero z h e = absurd (omega (arith, ints, h, ap unsigned_abs e))

-- the bound's constraint, whichever way it goes
bound_fits : (n j : ℕ) (f : Fraction) → j < n → IsDeckNumber f → has_wide (f.num ∷ f.den ∷ []) ≡ false → IsConstraint n (lower_bound j f) × IsConstraint n (upper_bound j f) × IsConstraint n (fixed_at j f)
bound_fits n j f h number quiet =
    let all = all_fit (f.num ∷ f.den ∷ []) quiet in
    let num : FitsCase f.num = All-head FitsCase f.num (f.den ∷ []) all in
    let den : FitsCase f.den = All-head FitsCase f.den [] (All-tail FitsCase f.num (f.den ∷ []) all) in
    let some = positive_nonzero f.den number.lowest.positive in
    let up = one_shaped n j f.den h some in
    let down = one_shaped n j (neg_ℤ f.den) h (negative_nonzero f.den some) in
    let plain : FitsCase f.num → Shaped n (lower_bound j f) → IsConstraint n (lower_bound j f) = λ _ s. record {
      ascending = s.ascending;
      columns_named = s.columns_named;
      coefficients = All-cons (λ t. FitsCase t.1 × (t.1 ≢ pos 0)) (j, f.den) [] (den, some) (All-nil (λ t. FitsCase t.1 × (t.1 ≢ pos 0)));
      right = num;
    } in (
      plain num up,
      record {
        ascending = down.ascending;
        columns_named = down.columns_named;
        coefficients = All-cons (λ t. FitsCase t.1 × (t.1 ≢ pos 0)) (j, neg_ℤ f.den) [] (omega (arith, ints, den), negative_nonzero f.den some) (All-nil (λ t. FitsCase t.1 × (t.1 ≢ pos 0)));
        right = omega (arith, ints, num);
      },
      record { ascending = up.ascending; columns_named = up.columns_named; coefficients = (plain num up).coefficients; right = num },
    )

listed_fits : (n j line : ℕ) (o : Option Fraction) (made : Fraction → Constraint) → IfSome o IsDeckNumber → wide_bound (record { value = o; line = line }) ≡ [] → ((f : Fraction) → IsDeckNumber f → has_wide (f.num ∷ f.den ∷ []) ≡ false → IsConstraint n (made f)) → All (IsConstraint n) (for_bound made o)
listed_fits n j line None made h quiet fit = All-nil (IsConstraint n)
listed_fits n j line (Some f) made h quiet fit = All-cons (IsConstraint n) (made f) [] (fit f h (named_none line (f.num ∷ f.den ∷ []) quiet)) (All-nil (IsConstraint n))

column_fits : (n j : ℕ) (fixed : Bool) (lower upper : Bound) → j < n → IfSome lower.value IsDeckNumber → IfSome upper.value IsDeckNumber → cond fixed (wide_bound lower) (wide_bound lower ++ wide_bound upper) ≡ [] → All (IsConstraint n) (cond fixed (for_bound (fixed_at j) lower.value) (for_bound (lower_bound j) lower.value ++ for_bound (upper_bound j) upper.value))
column_fits n j true lower upper h p q quiet = listed_fits n j lower.line lower.value (fixed_at j) p quiet (λ f number small. (bound_fits n j f h number small).2)
column_fits n j false lower upper h p q quiet =
    All-append (IsConstraint n) (for_bound (lower_bound j) lower.value) (for_bound (upper_bound j) upper.value)
    (listed_fits n j lower.line lower.value (lower_bound j) p (nil_left (wide_bound lower) (wide_bound upper) quiet) (λ f number small. (bound_fits n j f h number small).0))
    (listed_fits n j upper.line upper.value (upper_bound j) q (nil_right (wide_bound lower) (wide_bound upper) quiet) (λ f number small. (bound_fits n j f h number small).1))

columns_fit : (d : Deck) → IsDeck d → flat_map wide_column d.columns ≡ [] → All (IsConstraint (length d.columns)) (column_constraints d)
columns_fit d h none =
    let made : ℕ × Column → List Constraint = λ q. constraints_of_column q.0 q.1 in
    All-flat_map (IsConstraint (length d.columns)) made (enumerate_from 0 d.columns) (λ k q l.
    let within : k < length d.columns = omega (arith, length-enumerate_from 0 d.columns) in
    let col = get_or d.columns k q.1 in
    let facts : IsColumn col = h.columns k q.1 within in
    let quiet : wide_column col ≡ [] = nil_each wide_column d.columns none k q.1 within in
    let here : get_or (enumerate_from 0 d.columns) k q ≡ (k, col) = get_or-enumerate_from 0 d.columns k q within ∙ ap (λ n. (n, col)) (omega arith) in
    subst (λ x. All (IsConstraint (length d.columns)) (made x)) (sym here) (column_fits (length d.columns) k col.fixed col.lower col.upper within facts.lower facts.upper quiet))

-- ---- the objective

pub all_below : (P : ℕ → Type 0) (n : ℕ) → ((j : ℕ) → j < n → P j) → All P (range_with_len 0 n)
all_below P n h i d l =
    let within : i < n = omega (arith, length-range_with_len 0 n) in
    subst P (sym (get_or-range_with_len 0 n i d within)) (h (0 + i) (omega arith))

-- the numbers of the objective
objective_quiet : (d : Deck) → IsDeck d → wide_rows d.entries (enumerate_from 0 d.rows) ≡ [] → has_wide (judged_numbers N (entries_of d.entries d.objective) (row_at d d.objective)) ≡ false
objective_quiet d h none =
    let o = h.objective in
    let row : row_at d d.objective ≡ o.0 = row_at_is d d.objective o.0 o.1 in
    let quiet = row_quiet d d.objective o.0 none o.1 in
    ap (λ (x : Row). has_wide (judged_numbers N (entries_of d.entries d.objective) x)) row
    ∙ ap (λ l. has_wide (judged_numbers l (entries_of d.entries d.objective) o.0)) (sym o.2)
    ∙ quiet

pub objective_numbers : (d : Deck) → IsDeck d → All IsDeckNumber (numbers_of (row_at d d.objective).rhs None (entries_of d.entries d.objective))
objective_numbers d h =
    let o = h.objective in
    let es = entries_of d.entries d.objective in
    subst (λ (x : Row). All IsDeckNumber (numbers_of x.rhs None es)) (sym (row_at_is d d.objective o.0 o.1)) (without_range o.0.rhs o.0.range es (row_numbers d d.objective o.0 h o.1))

values_fit : (ts : Terms) → has_wide (coefficients ts) ≡ false → All (λ t. FitsCase t.1) ts
values_fit ts h i d l = subst FitsCase (get_or-map (λ (t : ℕ × ℤ). t.1) ts i d d.1 l) (all_fit (coefficients ts) h i d.1 (omega (arith, length-map ts (λ (t : ℕ × ℤ). t.1))))

-- ---- pairs

pub made_named : (d : Deck) → IsDeck d → All (Both (NamesQuantity d)) (pairs_made d)
made_named d h =
    All-append (Both (NamesQuantity d)) d.pairs (group_pairs d.groups) h.pairs_named
    (All-flat_map (Both (NamesQuantity d)) (λ (g : GroupLine). twos g.items) d.groups (λ i g l.
    let items = (get_or d.groups i g).items in
    All-from_recursion (Both (NamesQuantity d)) (twos items) (both_of_twos (NamesQuantity d) items (recursion_from_All (NamesQuantity d) items (h.groups_named i g l)))))

-- ---- the case

all_signed : (s : Sense) (costs : List ℤ) → All FitsCase costs → All (λ z. FitsCase (signed s z)) costs
all_signed s costs h i z l = signed_fits s (get_or costs i z) (h i z l)

-- the numbers of the objective are those of a case, whatever their signs
pub record HasNarrowObjective (d : Deck) : Type 0 where
  pub costs : All FitsCase (cost_of (length d.columns) (entries_of d.entries d.objective) (row_at d d.objective))
  pub scale : FitsCase (pos (scale_of (entries_of d.entries d.objective) (row_at d d.objective)))
  pub offset : FitsCase (offset_of (entries_of d.entries d.objective) (row_at d d.objective))

pub narrow_objective : (d : Deck) → IsDeck d → wide_rows d.entries (enumerate_from 0 d.rows) ≡ [] → HasNarrowObjective d
narrow_objective d h rows =
    let es = entries_of d.entries d.objective in
    let r = row_at d d.objective in
    let n = length d.columns in
    let quiet = objective_quiet d h rows in
    let all = all_fit (judged_numbers N es r) quiet in
    let rest = All-tail FitsCase (pos (scale_of es r)) (offset_of es r ∷ coefficients (cost_terms es r)) all in
    let small = or_right_false (is_wide (offset_of es r)) (has_wide (coefficients (cost_terms es r))) (or_right_false (is_wide (pos (scale_of es r))) (is_wide (offset_of es r) || has_wide (coefficients (cost_terms es r))) quiet) in
    let ts = cost_terms es r in
    record {
      costs = All-map FitsCase (coefficient ts) (range_with_len 0 n) (all_below (λ j. FitsCase (coefficient ts j)) n (λ j _. coefficient_keeps FitsCase ts j (omega arith) (terms_ascend (scale_of es r) es (h.ascending d.objective)) (recursion_from_All (λ t. FitsCase t.1) ts (values_fit ts small))));
      scale = All-head FitsCase (pos (scale_of es r)) (offset_of es r ∷ coefficients (cost_terms es r)) all;
      offset = All-head FitsCase (offset_of es r) (coefficients (cost_terms es r)) rest;
    }

pub is_case : (d : Deck) → IsDeck d → wide_lines d ≡ [] → length (constraints_of d) ≤ 2000 → IsCase (case_of_deck d)
is_case d h none few =
    let es = entries_of d.entries d.objective in
    let r = row_at d d.objective in
    let n = length d.columns in
    let rows = nil_left (wide_rows d.entries (enumerate_from 0 d.rows)) (flat_map wide_column d.columns) none in
    let columns = nil_right (wide_rows d.entries (enumerate_from 0 d.rows)) (flat_map wide_column d.columns) none in
    let objective = narrow_objective d h rows in
    record {
      few_columns = h.few_columns;
      few_constraints = few;
      few_pairs = omega (arith, length-map (pairs_made d) (pair_of d), h.few_pairs);
      cost_length = length-map (cost_of n es r) (signed d.sense) ∙ length-map-range_with_len (coefficient (cost_terms es r)) 0 n;
      costs = All-map FitsCase (signed d.sense) (cost_of n es r) (all_signed d.sense (cost_of n es r) objective.costs);
      scale_positive = omega (arith, ints, row_positive r.rhs None es (scale_of es r) (objective_numbers d h) refl);
      scale = objective.scale;
      offset = signed_fits d.sense (offset_of es r) objective.offset;
      constraints = All-append (IsConstraint n) (row_constraints d) (column_constraints d) (rows_fit d h rows) (columns_fit d h columns);
      pairs = All-map (λ p. NamesInequality (constraints_of d) p.0 × NamesInequality (constraints_of d) p.1) (pair_of d) (pairs_made d) (λ i p l.
          let names = made_named d h i p l in
          (side_named d (get_or (pairs_made d) i p).a names.0, side_named d (get_or (pairs_made d) i p).b names.1));
    }

-- the same of equal parts
pub is_case_of_parts : (d : Deck) (n : ℕ) (cost : List ℤ) (scale offset : ℤ) (constraints : List Constraint) (pairs : List (ℕ × ℕ)) → IsDeck d → wide_lines d ≡ [] → length constraints ≤ 2000 → n ≡ length d.columns
    → cost ≡ map (signed d.sense) (cost_of (length d.columns) (entries_of d.entries d.objective) (row_at d d.objective)) → scale ≡ pos (scale_of (entries_of d.entries d.objective) (row_at d d.objective))
    → offset ≡ signed d.sense (offset_of (entries_of d.entries d.objective) (row_at d d.objective)) → constraints ≡ constraints_of d → pairs ≡ map (pair_of d) (pairs_made d) → IsCase (instance_of n cost scale offset d.sense constraints pairs)
is_case_of_parts d n cost scale offset constraints pairs h none few en ec es eo er ep =
    let target = is_case d h none (omega (arith, few, ap length er)) in
    let same : case_of_deck d ≡ instance_of n cost scale offset d.sense constraints pairs = sym (λ i. instance_of (en i) (ec i) (es i) (eo i) d.sense (er i) (ep i)) in
    subst IsCase same target
