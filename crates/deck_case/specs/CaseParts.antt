-- The constraints of rows and columns, each from its row or its column alone, and the objective.
use Rattle.std.specs.Prelude.{◌++◌, not, ℕ, ℤ, Bool, true, false, pos, neg_ℤ, List, [], ◌∷◌, Option, None, filter, map, if◌then◌else◌}
use Rattle.std.specs.List.{enumerate_from, flat_map, range_with_len}
use Rattle.std.specs.Option.{option_map, option_to_list}
use Rattle.std.specs.Ordering.{int_eq}
use Rattle.lp_nums.specs.Fractions.{Fraction}
use Rattle.lpcc_case.specs.declared.constraint.Constraint.{Constraint}
use Rattle.lpcc_case.specs.declared.constraint.Kind.TheVariants.{Ge, Eq}
use Rattle.lpcc_case.specs.Points.{coefficient}
use Rattle.decks.specs.Decks.{entries_of}
use Rattle.decks.specs.declared.deck.Column.{Column}
use Rattle.decks.specs.declared.deck.Deck.{Deck}
use Rattle.decks.specs.declared.deck.Entry.{Entry}
use Rattle.decks.specs.declared.deck.Letter.{Letter}
use Rattle.decks.specs.declared.deck.Letter.TheVariants.{E}
use Rattle.decks.specs.declared.deck.Row.{Row}
use Rattle.deck_case.specs.Multipliers.{multiplier, times}
use Rattle.deck_case.specs.Sides.{sides}

-- ---- one constraint

-- columns with their coefficients
abbrev pub Terms : Type 0
Terms = List (ℕ × ℤ)

abbrev pub coefficients : Terms → List ℤ
coefficients terms = map (λ t. t.1) terms

-- the sum of the terms is at least b
abbrev pub at_least : Terms → ℤ → Constraint
at_least terms b = record { kind = Ge; terms = terms; rhs = b }

abbrev pub negated : Terms → Terms
negated terms = map (λ t. (t.0, neg_ℤ t.1)) terms

-- the sum of the terms is at most b: all signs are changed
abbrev pub at_most : Terms → ℤ → Constraint
at_most terms b = record { kind = Ge; terms = negated terms; rhs = neg_ℤ b }

-- the sum of the terms is b
abbrev pub equal_to : Terms → ℤ → Constraint
equal_to terms b = record { kind = Eq; terms = terms; rhs = b }

-- ---- rows

-- the numbers of a row: its right-hand side, its range and its entries
abbrev pub numbers_of : Fraction → Option Fraction → List Entry → List Fraction
numbers_of b range es = b ∷ (option_to_list range ++ map (λ e. e.value) es)

-- the multiplier of a row that is not the objective
abbrev pub row_multiplier : List Entry → Row → ℕ
row_multiplier es r = multiplier (numbers_of r.rhs r.range es)

abbrev pub is_nonzero : Entry → Bool
is_nonzero e = not (int_eq e.value.num (pos 0))

-- the terms of entries, times m: an explicit zero gives none
abbrev pub terms_of : ℕ → List Entry → Terms
terms_of m es = map (λ e. (e.column, times m e.value)) (filter is_nonzero es)

-- an E row without a range
abbrev pub is_equation : Letter → Option Fraction → Bool
is_equation E None = true
is_equation letter range = false

-- the terms are at least the lower and at most the upper end, each as far as it is there
abbrev pub between_ends : Terms → Option ℤ → Option ℤ → List Constraint
between_ends terms lower upper = option_to_list (option_map (at_least terms) lower) ++ option_to_list (option_map (at_most terms) upper)

-- the constraints of a row that is not the objective, from its entries: all its numbers are times its multiplier
abbrev pub constraints_of_row : List Entry → Row → List Constraint
constraints_of_row es r =
    let m = row_multiplier es r in
    let s = sides r.letter r.rhs r.range in
    if is_equation r.letter r.range then equal_to (terms_of m es) (times m r.rhs) ∷ []
    else between_ends (terms_of m es) (option_map (times m) s.lower) (option_map (times m) s.upper)

-- the constraints of rows that stand with their numbers
abbrev pub constraints_of_rows : List Entry → List (ℕ × Row) → List Constraint
constraints_of_rows entries numbered = flat_map (λ r. constraints_of_row (entries_of entries r.0) r.1) numbered

abbrev pub row_constraints : Deck → List Constraint
row_constraints d = constraints_of_rows d.entries (enumerate_from 0 d.rows)

-- ---- columns

-- a bound p / q in lowest terms gives the coefficient q and the right side p
abbrev pub lower_bound : ℕ → Fraction → Constraint
lower_bound j f = at_least ((j, f.den) ∷ []) f.num

abbrev pub upper_bound : ℕ → Fraction → Constraint
upper_bound j f = at_most ((j, f.den) ∷ []) f.num

abbrev pub fixed_at : ℕ → Fraction → Constraint
fixed_at j f = equal_to ((j, f.den) ∷ []) f.num

-- one constraint for a bound that is there
abbrev pub for_bound : (Fraction → Constraint) → Option Fraction → List Constraint
for_bound made bound = option_to_list (option_map made bound)

-- the constraints of column j: one where it is fixed, else its lower and then its upper bound, as far as they are there
abbrev pub constraints_of_column : ℕ → Column → List Constraint
constraints_of_column j c =
    if c.fixed then for_bound (fixed_at j) c.lower.value
    else for_bound (lower_bound j) c.lower.value ++ for_bound (upper_bound j) c.upper.value

abbrev pub constraints_of_columns : List (ℕ × Column) → List Constraint
constraints_of_columns numbered = flat_map (λ c. constraints_of_column c.0 c.1) numbered

abbrev pub column_constraints : Deck → List Constraint
column_constraints d = constraints_of_columns (enumerate_from 0 d.columns)

abbrev pub constraints_of : Deck → List Constraint
constraints_of d = row_constraints d ++ column_constraints d

-- ---- the objective

-- the number that the costs and the constant are multiplied by
abbrev pub scale_of : List Entry → Row → ℕ
scale_of es r = multiplier (numbers_of r.rhs None es)

-- the constant: a right-hand side of the objective counts with the other sign
abbrev pub offset_of : List Entry → Row → ℤ
offset_of es r = neg_ℤ (times (scale_of es r) r.rhs)

-- the costs that are not zero, with their columns
abbrev pub cost_terms : List Entry → Row → Terms
cost_terms es r = terms_of (scale_of es r) es

-- the cost of each of n columns
abbrev pub cost_of : ℕ → List Entry → Row → List ℤ
cost_of n es r = map (coefficient (cost_terms es r)) (range_with_len 0 n)
