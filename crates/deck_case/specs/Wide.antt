-- What is too wide for a case, and the line that names it.
use Rattle.std.specs.Prelude.{ℕ, ℤ, ◌++◌, pos, Bool, nat_lt, List, [], ◌∷◌, unsigned_abs, if◌then◌else◌}
use Rattle.std.specs.List.{enumerate_from, flat_map, list_any}
use Rattle.std.specs.Option.{option_map_or}
use Rattle.lp_base.specs.declared.limits.TheConstants.{LARGEST_OF_CASE}
use Rattle.lpcc_case.specs.declared.constraint.Constraint.{Constraint}
use Rattle.decks.specs.Decks.{entries_of}
use Rattle.decks.specs.declared.deck.Bound.{Bound}
use Rattle.decks.specs.declared.deck.Column.{Column}
use Rattle.decks.specs.declared.deck.Deck.{Deck}
use Rattle.decks.specs.declared.deck.Entry.{Entry}
use Rattle.decks.specs.declared.deck.Letter.{Letter}
use Rattle.decks.specs.declared.deck.Letter.TheVariants.{N}
use Rattle.decks.specs.declared.deck.Row.{Row}
use Rattle.deck_case.specs.CaseParts.{coefficients, constraints_of_row, cost_terms, offset_of, row_multiplier, scale_of}

-- past 2^52 in size
abbrev pub is_wide : ℤ → Bool
is_wide z = nat_lt LARGEST_OF_CASE (unsigned_abs z)

abbrev pub has_wide : List ℤ → Bool
has_wide numbers = list_any is_wide numbers

-- the whole numbers of a constraint
abbrev pub whole_numbers : Constraint → List ℤ
whole_numbers c = c.rhs ∷ coefficients c.terms

-- the whole numbers of the objective in the case, and of another row with its multiplier
abbrev pub judged_numbers : Letter → List Entry → Row → List ℤ
judged_numbers N es r = pos (scale_of es r) ∷ offset_of es r ∷ coefficients (cost_terms es r)
judged_numbers letter es r = pos (row_multiplier es r) ∷ flat_map whole_numbers (constraints_of_row es r)

-- the line, where one of the numbers is too wide
abbrev pub named : ℕ → List ℤ → List ℕ
named line numbers = if has_wide numbers then line ∷ [] else []

abbrev pub wide_row : List Entry → Row → List ℕ
wide_row es r = named r.line (judged_numbers r.letter es r)

-- a bound p / q has these two numbers
abbrev pub wide_bound : Bound → List ℕ
wide_bound b = option_map_or (λ f. named b.line (f.num ∷ f.den ∷ [])) b.value []

-- a fixed column has one bound
abbrev pub wide_column : Column → List ℕ
wide_column c = if c.fixed then wide_bound c.lower else wide_bound c.lower ++ wide_bound c.upper

abbrev pub wide_rows : List Entry → List (ℕ × Row) → List ℕ
wide_rows entries numbered = flat_map (λ r. wide_row (entries_of entries r.0) r.1) numbered

-- the lines that name what is too wide: the rows with the objective in file order, then the columns
abbrev pub wide_lines : Deck → List ℕ
wide_lines d = wide_rows d.entries (enumerate_from 0 d.rows) ++ flat_map wide_column d.columns
