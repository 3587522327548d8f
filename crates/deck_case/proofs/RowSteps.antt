-- The constraints of a row, and what is too wide in them.
use Rattle.std.proofs.Common.{ℕ, ◌^◌, ◌<◌, ◌≤◌, ◌≡◌, ◌≢◌, refl, sym, ap, subst, ◌∙◌, inl, inr, arith, ℤ, pos, neg_ℤ, List, [], ◌∷◌, ◌++◌, All, Bool, true, false, ◌||◌, nat_lt, cond, get_or, map, Option, None, Some}
use Prim.Native.Nat.{◌∣◌}
use Rattle.std.specs.Prelude.{IfSome, IfErr, Result, Ok, Err, unsigned_abs, slice_get}
use Rattle.std.specs.Result.{IsErrAnd}
use Rattle.std.specs.List.{flat_map, list_any}
use Rattle.std.specs.Option.{option_map, option_to_list}
use Rattle.std.proofs.lemmas.Bool.{cases_Bool, ltb-false, ltb-true}
use Rattle.std.proofs.lemmas.Int.{ints}
use Rattle.std.proofs.lemmas.List.{append-nil, get_or-map, length-map}
use Rattle.std.proofs.lemmas.List.Elements.{All-cons, All-head, All-nil, All-tail}
use Rattle.lp_nums.specs.Fractions.{Fraction}
use Rattle.lpcc_case.specs.declared.constraint.Constraint.{Constraint}
use Rattle.decks.specs.Decks.{IsDeckNumber}
use Rattle.decks.specs.declared.deck.Entry.{Entry}
use Rattle.decks.specs.declared.deck.Letter.{Letter}
use Rattle.decks.specs.declared.deck.Letter.TheVariants.{N, E, L, G}
use Rattle.decks.specs.declared.deck.Row.{Row}
use Rattle.deck_case.specs.declared.fault.CaseFault.{CaseFault}
use Rattle.deck_case.specs.declared.fault.CaseFault.TheVariants.{RowWide, TooMany, NoMemory}
use Rattle.deck_case.specs.CaseParts.{Terms, at_least, at_most, between_ends, coefficients, constraints_of_row, equal_to, is_equation, negated, numbers_of, row_multiplier, terms_of}
use Rattle.deck_case.specs.Steps.{IsClearedBy, IsFirstOf, IsNarrowTerm, end_numbers}
use Rattle.deck_case.specs.Multipliers.{multiplier, times}
use Rattle.deck_case.specs.Sides.{between, reaches_down, sides}
use Rattle.deck_case.specs.Rationals.{minus, plus, size}
use Rattle.deck_case.specs.Wide.{has_wide, is_wide, judged_numbers, named, whole_numbers, wide_row}
use Rattle.deck_case.proofs.MultiplierSteps.{All-left, All-right, part_some, positive_numbers}
use Rattle.deck_case.proofs.Multiples.{each_divides}
use Rattle.deck_case.proofs.TermSteps.{named_narrow, named_wide, or_false, or_true_right, wide_append}

-- ---- what clears the numbers of a row

cleared : (m : ℕ) (fs : List Fraction) → All IsDeckNumber fs → m ≡ multiplier fs → All (IsClearedBy m) fs
cleared m fs h e i d l =
    let number = h i d l in
    record {
      positive = number.lowest.positive;
      divides = subst (λ n. unsigned_abs (get_or fs i d).den ∣ n) (sym e) (each_divides fs (positive_numbers fs h) i d l);
      small = number.den;
    }

pub row_positive : (b : Fraction) (range : Option Fraction) (es : List Entry) (m : ℕ) → All IsDeckNumber (numbers_of b range es) → m ≡ multiplier (numbers_of b range es) → 0 < m
row_positive b range es m h e = part_some (numbers_of b range es) (numbers_of b range es) [] h (sym (append-nil (numbers_of b range es))) m e

pub rhs_cleared : (b : Fraction) (range : Option Fraction) (es : List Entry) (m : ℕ) → All IsDeckNumber (numbers_of b range es) → m ≡ multiplier (numbers_of b range es) → IsClearedBy m b
rhs_cleared b range es m h e = All-head (IsClearedBy m) b (option_to_list range ++ map (λ e. e.value) es) (cleared m (numbers_of b range es) h e)

if_listed : (P : Fraction → Type 0) (o : Option Fraction) → All P (option_to_list o) → IfSome o P
if_listed P None h = tt
if_listed P (Some x) h = All-head P x [] h

pub range_cleared : (b : Fraction) (range : Option Fraction) (es : List Entry) (m : ℕ) → All IsDeckNumber (numbers_of b range es) → m ≡ multiplier (numbers_of b range es) → IfSome range (IsClearedBy m)
range_cleared b range es m h e =
    let rest = All-tail (IsClearedBy m) b (option_to_list range ++ map (λ e. e.value) es) (cleared m (numbers_of b range es) h e) in
    if_listed (IsClearedBy m) range (All-left (IsClearedBy m) (option_to_list range) (map (λ e. e.value) es) rest)

pub entries_cleared : (b : Fraction) (range : Option Fraction) (es : List Entry) (m : ℕ) → All IsDeckNumber (numbers_of b range es) → m ≡ multiplier (numbers_of b range es) → All (λ (x : Entry). IsClearedBy m x.value) es
entries_cleared b range es m h e i d l =
    let rest = All-tail (IsClearedBy m) b (option_to_list range ++ map (λ e. e.value) es) (cleared m (numbers_of b range es) h e) in
    let all = All-right (IsClearedBy m) (option_to_list range) (map (λ e. e.value) es) rest in
    subst (IsClearedBy m) (get_or-map (λ e. e.value) es i d d.value l) (all i d.value (omega (arith, length-map es (λ e. e.value))))

-- ---- terms

negative_size : (z : ℤ) → unsigned_abs (neg_ℤ z) ≡ unsigned_abs z
negative_size z = omega (arith, ints)

pub negative_wide : (z : ℤ) → is_wide (neg_ℤ z) ≡ is_wide z
negative_wide z = ap (λ n. nat_lt (2 ^ 52) n) (negative_size z)

pub negated_wide : (ts : Terms) → has_wide (coefficients (negated ts)) ≡ has_wide (coefficients ts)
negated_wide [] = refl
negated_wide (t ∷ ts) = ap (λ b. b || has_wide (coefficients (negated ts))) (negative_wide t.1) ∙ ap (λ b. is_wide t.1 || b) (negated_wide ts)

pub or_left_false : (a b : Bool) → (a || b) ≡ false → a ≡ false
or_left_false true b h = h
or_left_false false b h = refl

pub or_right_false : (a b : Bool) → (a || b) ≡ false → b ≡ false
or_right_false true b h = absurd (cc)
or_right_false false b h = h

pub not_wide : (z : ℤ) → is_wide z ≡ false → unsigned_abs z ≤ 2 ^ 52
not_wide z h = ltb-false (2 ^ 52) (unsigned_abs z) h

pub narrow_terms : (ts : Terms) → has_wide (coefficients ts) ≡ false → All IsNarrowTerm ts
narrow_terms [] h = All-nil IsNarrowTerm
narrow_terms (t ∷ ts) h =
    All-cons IsNarrowTerm t ts (not_wide t.1 (or_left_false (is_wide t.1) (has_wide (coefficients ts)) h))
    (narrow_terms ts (or_right_false (is_wide t.1) (has_wide (coefficients ts)) h))

-- ---- what is too wide in the constraints of a row

-- w says whether one of the coefficients (c) or of the ends (e) is too wide
record Joins (w c e : Bool) : Type 0 where
  pub from_terms : c ≡ true → w ≡ true
  pub from_ends : e ≡ true → w ≡ true
  pub narrow : c ≡ false → e ≡ false → w ≡ false

joins_one : (x c : Bool) → Joins ((x || c) || false) c (x || false)
joins_one true c = record { from_terms = λ _. refl; from_ends = λ _. refl; narrow = λ _ h. h }
joins_one false true = record { from_terms = λ _. refl; from_ends = λ _. refl; narrow = λ h _. h }
joins_one false false = record { from_terms = λ h. h; from_ends = λ h. h; narrow = λ _ _. refl }

joins_two : (x y c : Bool) → Joins ((x || c) || ((y || c) || false)) c (x || (y || false))
joins_two true y c = record { from_terms = λ _. refl; from_ends = λ _. refl; narrow = λ _ h. h }
joins_two false true true = record { from_terms = λ _. refl; from_ends = λ _. refl; narrow = λ h _. h }
joins_two false true false = record { from_terms = λ _. refl; from_ends = λ _. refl; narrow = λ _ h. h }
joins_two false false true = record { from_terms = λ _. refl; from_ends = λ _. refl; narrow = λ h _. h }
joins_two false false false = record { from_terms = λ h. h; from_ends = λ h. h; narrow = λ _ _. refl }

joins_same : (x c : Bool) → Joins ((x || c) || false) c (x || (x || false))
joins_same true c = record { from_terms = λ _. refl; from_ends = λ _. refl; narrow = λ _ h. h }
joins_same false true = record { from_terms = λ _. refl; from_ends = λ _. refl; narrow = λ h _. h }
joins_same false false = record { from_terms = λ h. h; from_ends = λ h. h; narrow = λ _ _. refl }

wide_flat : (cs : List Constraint) → has_wide (flat_map whole_numbers cs) ≡ list_any (λ c. has_wide (whole_numbers c)) cs
wide_flat [] = refl
wide_flat (c ∷ cs) = wide_append (whole_numbers c) (flat_map whole_numbers cs) ∙ ap (λ b. has_wide (whole_numbers c) || b) (wide_flat cs)

most_wide : (ts : Terms) (b : ℤ) → has_wide (whole_numbers (at_most ts b)) ≡ (is_wide b || has_wide (coefficients ts))
most_wide ts b = ap (λ x. x || has_wide (coefficients (negated ts))) (negative_wide b) ∙ ap (λ x. is_wide b || x) (negated_wide ts)

abbrev ends_list : Option ℤ → Option ℤ → List ℤ
ends_list lower upper = option_to_list lower ++ option_to_list upper

-- there is an end
abbrev HasEnd : Option ℤ → Option ℤ → Type 0
HasEnd None None = ⊥
HasEnd None (Some u) = Unit {0}
HasEnd (Some l) upper = Unit {0}

between_joins : (ts : Terms) (lower upper : Option ℤ) → HasEnd lower upper → Joins (has_wide (flat_map whole_numbers (between_ends ts lower upper))) (has_wide (coefficients ts)) (has_wide (ends_list lower upper))
between_joins ts None None h = absurd h
between_joins ts None (Some u) h =
    let c = has_wide (coefficients ts) in
    let e : has_wide (flat_map whole_numbers (at_most ts u ∷ [])) ≡ ((is_wide u || c) || false) = wide_flat (at_most ts u ∷ []) ∙ ap (λ b. b || false) (most_wide ts u) in
    subst (λ w. Joins w c (is_wide u || false)) (sym e) (joins_one (is_wide u) c)
between_joins ts (Some l) None h =
    let c = has_wide (coefficients ts) in
    subst (λ w. Joins w c (is_wide l || false)) (sym (wide_flat (at_least ts l ∷ []))) (joins_one (is_wide l) c)
between_joins ts (Some l) (Some u) h =
    let c = has_wide (coefficients ts) in
    let e : has_wide (flat_map whole_numbers (at_least ts l ∷ at_most ts u ∷ [])) ≡ ((is_wide l || c) || ((is_wide u || c) || false)) = wide_flat (at_least ts l ∷ at_most ts u ∷ []) ∙ ap (λ b. (is_wide l || c) || (b || false)) (most_wide ts u) in
    subst (λ w. Joins w c (is_wide l || (is_wide u || false))) (sym e) (joins_two (is_wide l) (is_wide u) c)

equal_joins : (ts : Terms) (b : ℤ) → Joins (has_wide (flat_map whole_numbers (equal_to ts b ∷ []))) (has_wide (coefficients ts)) (is_wide b || (is_wide b || false))
equal_joins ts b = subst (λ w. Joins w (has_wide (coefficients ts)) (is_wide b || (is_wide b || false))) (sym (wide_flat (equal_to ts b ∷ []))) (joins_same (is_wide b) (has_wide (coefficients ts)))

-- the constraints of a row by its letter, right-hand side and range
abbrev pub made_of : Letter → Fraction → Option Fraction → ℕ → Terms → List Constraint
made_of letter b range m ts =
    let s = sides letter b range in
    cond (is_equation letter range) (equal_to ts (times m b) ∷ []) (between_ends ts (option_map (times m) s.lower) (option_map (times m) s.upper))

range_end : (m : ℕ) (down : Bool) (x y z : Fraction) → HasEnd (option_map (times m) (cond down (between (Some x) (Some y)) (between (Some y) (Some z))).lower) (option_map (times m) (cond down (between (Some x) (Some y)) (between (Some y) (Some z))).upper)
range_end m true x y z = tt
range_end m false x y z = tt

row_joins : (letter : Letter) (b : Fraction) (range : Option Fraction) (m : ℕ) (ts : Terms) → letter ≢ N → Joins (has_wide (flat_map whole_numbers (made_of letter b range m ts))) (has_wide (coefficients ts)) (has_wide (end_numbers m (sides letter b range)))
row_joins N b range m ts h = absurd (h refl)
row_joins E b None m ts h = equal_joins ts (times m b)
row_joins L b None m ts h = between_joins ts None (Some (times m b)) tt
row_joins G b None m ts h = between_joins ts (Some (times m b)) None tt
row_joins E b (Some r) m ts h =
    let s = sides E b (Some r) in
    between_joins ts (option_map (times m) s.lower) (option_map (times m) s.upper) (range_end m (reaches_down E r) (minus b (size r)) b (plus b (size r)))
row_joins L b (Some r) m ts h = between_joins ts (Some (times m (minus b (size r)))) (Some (times m b)) tt
row_joins G b (Some r) m ts h = between_joins ts (Some (times m b)) (Some (times m (plus b (size r)))) tt

-- ---- the numbers that a row is judged by

judged_is : (letter : Letter) (es : List Entry) (r : Row) → letter ≢ N → judged_numbers letter es r ≡ pos (row_multiplier es r) ∷ flat_map whole_numbers (constraints_of_row es r)
judged_is N es r h = absurd (h refl)
judged_is E es r h = refl
judged_is L es r h = refl
judged_is G es r h = refl

-- with its multiplier m
judged_by : (es : List Entry) (r : Row) (m : ℕ) → r.letter ≢ N → m ≡ row_multiplier es r → has_wide (judged_numbers r.letter es r) ≡ (is_wide (pos m) || has_wide (flat_map whole_numbers (made_of r.letter r.rhs r.range m (terms_of m es))))
judged_by es r m h e =
    ap has_wide (judged_is r.letter es r h)
    ∙ ap (λ n. is_wide (pos n) || has_wide (flat_map whole_numbers (made_of r.letter r.rhs r.range n (terms_of n es)))) (sym e)

first_named : (line : ℕ) (numbers : List ℤ) → has_wide numbers ≡ true → slice_get (named line numbers) 0 ≡ Some line
first_named line numbers h = ap (λ l. slice_get l 0) (named_wide line numbers h)

pub row_wide_by_terms : (es : List Entry) (r : Row) (m : ℕ) → r.letter ≢ N → m ≡ row_multiplier es r → has_wide (coefficients (terms_of m es)) ≡ true → has_wide (judged_numbers r.letter es r) ≡ true
row_wide_by_terms es r m h e wide =
    judged_by es r m h e ∙ or_true_right (is_wide (pos m)) (has_wide (flat_map whole_numbers (made_of r.letter r.rhs r.range m (terms_of m es)))) ((row_joins r.letter r.rhs r.range m (terms_of m es) h).from_terms wide)

pub row_wide_by_ends : (es : List Entry) (r : Row) (m : ℕ) → r.letter ≢ N → m ≡ row_multiplier es r → has_wide (end_numbers m (sides r.letter r.rhs r.range)) ≡ true → slice_get (wide_row es r) 0 ≡ Some r.line
row_wide_by_ends es r m h e wide =
    first_named r.line (judged_numbers r.letter es r)
    (judged_by es r m h e ∙ or_true_right (is_wide (pos m)) (has_wide (flat_map whole_numbers (made_of r.letter r.rhs r.range m (terms_of m es)))) ((row_joins r.letter r.rhs r.range m (terms_of m es) h).from_ends wide))

small_multiplier : (m : ℕ) → m ≤ 2 ^ 52 → is_wide (pos m) ≡ false
small_multiplier m h =
    elim (cases_Bool (is_wide (pos m))) [
      | inl wide ↦ absurd (omega (arith, h, ltb-true (2 ^ 52) m wide))
      | inr small ↦ small
    ]

pub row_narrow : (es : List Entry) (r : Row) (m : ℕ) → r.letter ≢ N → m ≡ row_multiplier es r → m ≤ 2 ^ 52 → has_wide (coefficients (terms_of m es)) ≡ false → has_wide (end_numbers m (sides r.letter r.rhs r.range)) ≡ false → wide_row es r ≡ []
row_narrow es r m h e small terms ends =
    named_narrow r.line (judged_numbers r.letter es r)
    (judged_by es r m h e ∙ or_false (is_wide (pos m)) (has_wide (flat_map whole_numbers (made_of r.letter r.rhs r.range m (terms_of m es)))) (small_multiplier m small) ((row_joins r.letter r.rhs r.range m (terms_of m es) h).narrow terms ends))

-- ---- faults that are passed on

pub passed_on : {T : Type 0} (found : Result T CaseFault) (fault : CaseFault) (P : CaseFault → Type 0) → IsErrAnd found (λ f. f ≡ fault) → P fault → IfErr found P
passed_on (Ok x) fault P h p = tt
passed_on (Err f) fault P h p = subst P (sym h) p

-- the fault of a part of the numbers of a line is that of all of them
pub part_fault : (line : ℕ) (part all : List ℤ) (fault : CaseFault) → (has_wide part ≡ true → has_wide all ≡ true) → IsFirstOf (named line part) fault → IsFirstOf (named line all) fault
part_fault line part all (TooMany l) grows h = h
part_fault line part all (NoMemory e) grows h = tt
part_fault line part all (RowWide l) grows h =
    elim (cases_Bool (has_wide part)) [
      | inl wide ↦ ap (λ x. slice_get x 0) (named_wide line all (grows wide)) ∙ ap (λ x. slice_get x 0) (sym (named_wide line part wide)) ∙ h
      | inr small ↦
          let none : slice_get {X = ℕ} [] 0 ≡ Some l = ap (λ x. slice_get x 0) (sym (named_narrow line part small)) ∙ h in
          absurd (cc)
    ]
