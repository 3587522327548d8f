-- Where the constraints of a row and of a column stand.
use Rattle.std.proofs.Common.{ℕ, zero, suc, ◌+◌, ◌<◌, ◌≡◌, refl, ap, ◌∙◌, arith, ℤ, List, [], ◌∷◌, ◌++◌, append_assoc, Bool, true, false, cond, length, get_or, take, drop, Option, None, Some, slice_get}
use Rattle.std.specs.Prelude.{◌&&◌, is_some}
use Rattle.std.specs.List.{enumerate_from, flat_map}
use Rattle.std.proofs.lemmas.List.{get_or-append-add, length-append}
use Rattle.std.proofs.lemmas.Option.{slice_get_within, slice_get-get_or, get_or_from_slice_get}
use Rattle.lp_nums.specs.Fractions.{Fraction}
use Rattle.lpcc_case.specs.declared.constraint.Constraint.{Constraint}
use Rattle.lpcc_case.specs.declared.constraint.Kind.TheVariants.{Ge}
use Rattle.lpcc_case.specs.Cases.{NamesInequality}
use Rattle.decks.specs.Decks.{NamesQuantity, entries_of, is_inequality}
use Rattle.decks.specs.Decks as decks
use Rattle.decks.specs.declared.deck.Column.{Column}
use Rattle.decks.specs.declared.deck.Deck.{Deck}
use Rattle.decks.specs.declared.deck.Entry.{Entry}
use Rattle.decks.specs.declared.deck.Letter.{Letter}
use Rattle.decks.specs.declared.deck.Letter.TheVariants.{N, E, L, G}
use Rattle.decks.specs.declared.deck.Quantity.{Quantity}
use Rattle.decks.specs.declared.deck.Quantity.TheVariants.{Col, Upc, Row}
use Rattle.decks.specs.declared.deck.Row as rows
use Rattle.deck_case.specs.CaseParts.{Terms, at_least, at_most, column_constraints, constraints_of, constraints_of_column, constraints_of_columns, constraints_of_row, fixed_at, for_bound, lower_bound, upper_bound, row_constraints, row_multiplier, terms_of}
use Rattle.deck_case.specs.DeckCases.{before_column, before_row, is_upper, side_number, side_place, upper_place}
use Rattle.decks.specs.Bounds.{default_column}
use Rattle.deck_case.specs.DeckPoints.{column_at, row_at}
use Rattle.deck_case.specs.Multipliers.{times}
use Rattle.deck_case.proofs.BodySteps.{row_at_is}
use Rattle.deck_case.proofs.Numbered.{flat-split, numbered_more}
use Rattle.deck_case.proofs.RowSteps.{made_of}

-- ---- elements of joined lists

pub get_front : {X : Type 0} (xs ys : List X) (k : ℕ) (x : X) → slice_get xs k ≡ Some x → slice_get (xs ++ ys) k ≡ Some x
get_front [] ys k x h = absurd (cc)
get_front (a ∷ xs) ys zero x h = h
get_front (a ∷ xs) ys (suc k) x h = get_front xs ys k x h

pub get_behind : {X : Type 0} (xs ys : List X) (k : ℕ) (x : X) → slice_get ys k ≡ Some x → slice_get (xs ++ ys) (length xs + k) ≡ Some x
get_behind xs ys k x h =
    let within : k < length ys = slice_get_within ys k x h in
    let here : length xs + k < length (xs ++ ys) = omega (arith, length-append xs ys, within) in
    slice_get-get_or (xs ++ ys) (length xs + k) x here ∙ ap Some (get_or-append-add xs ys k x ∙ get_or_from_slice_get ys k x x h)

-- an element of what the numbered element at k makes
pub get_made : {X A : Type 0} (f : ℕ × X → List A) (xs : List X) (k : ℕ) (d : X) (p : ℕ) (x : A) → slice_get xs k ≡ Some d → slice_get (f (k, d)) p ≡ Some x → slice_get (flat_map f (enumerate_from 0 xs)) (length (flat_map f (take k (enumerate_from 0 xs))) + p) ≡ Some x
get_made {X = X} f xs k d p x there h =
    let within : k < length xs = slice_get_within xs k d there in
    let front = flat_map f (take k (enumerate_from 0 xs)) in
    let here = f (k, get_or xs k d) in
    let rest = flat_map f (drop (k + 1) (enumerate_from 0 xs)) in
    let is : slice_get here p ≡ Some x = ap (λ (e : X). slice_get (f (k, e)) p) (get_or_from_slice_get xs k d d there) ∙ h in
    let split : flat_map f (enumerate_from 0 xs) ≡ front ++ (here ++ rest) = flat-split f (enumerate_from 0 xs) (k + 1) ∙ ap (λ l. l ++ rest) (numbered_more f xs k d within) ∙ append_assoc front here rest in
    ap (λ l. slice_get l (length front + p)) split ∙ get_behind front (here ++ rest) p x (get_front here rest p x is)

-- ---- the side of a pair

-- the constraint that is tight where the row is at its right-hand side
abbrev pub side_of : Letter → Terms → ℤ → Constraint
side_of N terms b = at_least terms b
side_of E terms b = at_least terms b
side_of L terms b = at_most terms b
side_of G terms b = at_least terms b

pub side_kind : (letter : Letter) (terms : Terms) (b : ℤ) → (side_of letter terms b).kind ≡ Ge
side_kind N terms b = refl
side_kind E terms b = refl
side_kind L terms b = refl
side_kind G terms b = refl

abbrev pub place_of : Letter → Option Fraction → ℕ
place_of L (Some r) = 1
place_of letter r = 0

place_is : (r : rows.Row) → side_place r ≡ place_of r.letter r.range
place_is r = by_cases r.letter r.range
  where
    by_cases : (letter : Letter) (range : Option Fraction) → cond (is_upper letter && is_some range) 1 0 ≡ place_of letter range
    by_cases N None = refl
    by_cases E None = refl
    by_cases L None = refl
    by_cases G None = refl
    by_cases N (Some r) = refl
    by_cases E (Some r) = refl
    by_cases L (Some r) = refl
    by_cases G (Some r) = refl

side_made : (letter : Letter) (b : Fraction) (range : Option Fraction) (m : ℕ) (ts : Terms) → is_inequality letter ≡ true → slice_get (made_of letter b range m ts) (place_of letter range) ≡ Some (side_of letter ts (times m b))
side_made N b range m ts h = absurd (cc)
side_made E b range m ts h = absurd (cc)
side_made L b None m ts h = refl
side_made G b None m ts h = refl
side_made L b (Some r) m ts h = refl
side_made G b (Some r) m ts h = refl

-- the side of the row at place i, as a constraint
abbrev pub side_row : Deck → ℕ → rows.Row → Constraint
side_row d i r =
    let es = entries_of d.entries i in
    side_of r.letter (terms_of (row_multiplier es r) es) (times (row_multiplier es r) r.rhs)

abbrev row_made : List Entry → ℕ × rows.Row → List Constraint
row_made entries r = constraints_of_row (entries_of entries r.0) r.1

pub row_side_at : (d : Deck) (i : ℕ) (r : rows.Row) → slice_get d.rows i ≡ Some r → is_inequality r.letter ≡ true → slice_get (constraints_of d) (side_number d (Row i)) ≡ Some (side_row d i r)
row_side_at d i r there h =
    let es = entries_of d.entries i in
    let m = row_multiplier es r in
    let place : side_place (row_at d i) ≡ place_of r.letter r.range = ap side_place (row_at_is d i r there) ∙ place_is r in
    let made = get_made (row_made d.entries) d.rows i r (place_of r.letter r.range) (side_row d i r) there (side_made r.letter r.rhs r.range m (terms_of m es) h) in
    ap (λ n. slice_get (constraints_of d) (before_row d i + n)) place
    ∙ get_front (row_constraints d) (column_constraints d) (before_row d i + place_of r.letter r.range) (side_row d i r) made

abbrev column_made : ℕ × Column → List Constraint
column_made c = constraints_of_column c.0 c.1

lower_first : (j : ℕ) (c : Column) (f : Fraction) → c.fixed ≡ false → c.lower.value ≡ Some f → slice_get (constraints_of_column j c) 0 ≡ Some (lower_bound j f)
lower_first j c f free lower = by_parts c.fixed c.lower.value c.upper.value free lower
  where
    by_parts : (fixed : Bool) (lower upper : Option Fraction) → fixed ≡ false → lower ≡ Some f → slice_get (cond fixed (for_bound (fixed_at j) lower) (for_bound (lower_bound j) lower ++ for_bound (upper_bound j) upper)) 0 ≡ Some (lower_bound j f)
    by_parts true lower upper e g = absurd (cc)
    by_parts false None upper e g = absurd (cc)
    by_parts false (Some x) upper e g = ap (λ (o : Option Fraction). slice_get (for_bound (lower_bound j) o ++ for_bound (upper_bound j) upper) 0) g

pub column_side_at : (d : Deck) (j : ℕ) (c : Column) (f : Fraction) → slice_get d.columns j ≡ Some c → c.fixed ≡ false → c.lower.value ≡ Some f → slice_get (constraints_of d) (side_number d (Col j)) ≡ Some (lower_bound j f)
column_side_at d j c f there free lower =
    let rows = row_constraints d in
    let front = constraints_of_columns (take j (enumerate_from 0 d.columns)) in
    let made : slice_get (column_constraints d) (length front + 0) ≡ Some (lower_bound j f) = get_made column_made d.columns j c 0 (lower_bound j f) there (lower_first j c f free lower) in
    let plain : slice_get (column_constraints d) (length front) ≡ Some (lower_bound j f) = ap (slice_get (column_constraints d)) (omega arith) ∙ made in
    get_behind rows (column_constraints d) (length front) (lower_bound j f) plain

upper_made : (j : ℕ) (c : Column) (f : Fraction) → c.fixed ≡ false → c.upper.value ≡ Some f → slice_get (constraints_of_column j c) (upper_place c) ≡ Some (upper_bound j f)
upper_made j c f free upper = by_parts c.fixed c.lower.value c.upper.value free upper
  where
    by_parts : (fixed : Bool) (lower upper : Option Fraction) → fixed ≡ false → upper ≡ Some f
        → slice_get (cond fixed (for_bound (fixed_at j) lower) (for_bound (lower_bound j) lower ++ for_bound (upper_bound j) upper)) (cond (is_some lower) 1 0) ≡ Some (upper_bound j f)
    by_parts true lower upper e g = absurd (cc)
    by_parts false None upper e g = ap (λ (o : Option Fraction). slice_get (for_bound (upper_bound j) o) 0) g
    by_parts false (Some x) upper e g = ap (λ (o : Option Fraction). slice_get (lower_bound j x ∷ for_bound (upper_bound j) o) 1) g

pub column_at_is : (d : Deck) (j : ℕ) (c : Column) → slice_get d.columns j ≡ Some c → column_at d j ≡ c
column_at_is d j c e = get_or_from_slice_get d.columns j c default_column e

pub upper_side_at : (d : Deck) (j : ℕ) (c : Column) (f : Fraction) → slice_get d.columns j ≡ Some c → c.fixed ≡ false → c.upper.value ≡ Some f → slice_get (constraints_of d) (side_number d (Upc j)) ≡ Some (upper_bound j f)
upper_side_at d j c f there free upper =
    let rows = row_constraints d in
    let front = constraints_of_columns (take j (enumerate_from 0 d.columns)) in
    let made : slice_get (column_constraints d) (length front + upper_place c) ≡ Some (upper_bound j f) = get_made column_made d.columns j c (upper_place c) (upper_bound j f) there (upper_made j c f free upper) in
    ap (λ n. slice_get (constraints_of d) (before_column d j + n)) (ap upper_place (column_at_is d j c there))
    ∙ ap (slice_get (constraints_of d)) (regrouped (length rows) (length front) (upper_place c))
    ∙ get_behind rows (column_constraints d) (length front + upper_place c) (upper_bound j f) made
  where
    regrouped : (a b c : ℕ) → (a + b) + c ≡ a + (b + c)
    regrouped a b c = omega arith

-- the number of a side is there, and names an inequality
pub side_named : (d : Deck) (q : Quantity) → NamesQuantity d q → NamesInequality (constraints_of d) (side_number d q)
side_named d (Col j) h = (lower_bound j decks.zero, column_side_at d j h.0 decks.zero h.1 h.2 h.3, refl)
side_named d (Upc j) h = (upper_bound j h.3.0, upper_side_at d j h.0 h.3.0 h.1 h.2 h.3.1, refl)
side_named d (Row i) h = (side_row d i h.0, row_side_at d i h.0 h.1 h.2, side_kind h.0.letter (terms_of (row_multiplier (entries_of d.entries i) h.0) (entries_of d.entries i)) (times (row_multiplier (entries_of d.entries i) h.0) h.0.rhs))

pub side_within : (d : Deck) (q : Quantity) → NamesQuantity d q → side_number d q < length (constraints_of d)
side_within d q h =
    let n = side_named d q h in
    slice_get_within (constraints_of d) (side_number d q) n.0 n.1
