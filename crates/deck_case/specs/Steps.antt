-- Words for what single steps of the code give.
use Rattle.std.specs.Prelude.{◌≡◌, ◌≤◌, ◌<◌, ◌≤ℤ◌, ℕ, ℤ, ◌+ℤ◌, ◌-ℤ◌, ◌^◌, ◌++◌, pos, Bool, true, false, List, Option, None, Some, MatchOption, length, map, slice_get, unsigned_abs, if◌then◌else◌}
use Rattle.std.specs.Int.{◌∣◌}
use Rattle.std.specs.List.{range_with_len}
use Rattle.std.specs.Option.{option_map, option_to_list}
use Rattle.lp_base.specs.declared.limits.TheConstants.{LARGEST_OF_CASE, MOST_CONSTRAINTS}
use Rattle.lp_nums.specs.Fractions.{Fraction}
use Rattle.decks.specs.Decks.{IsDeck}
use Rattle.decks.specs.declared.deck.Deck.{Deck}
use Rattle.decks.specs.declared.deck.PairLine.{PairLine}
use Rattle.decks.specs.declared.deck.Quantity.{Quantity}
use Rattle.deck_case.specs.CaseParts.{constraints_of}
use Rattle.deck_case.specs.DeckCases.{before_column, before_row}
use Rattle.deck_case.specs.declared.fault.CaseFault.{CaseFault}
use Rattle.deck_case.specs.declared.fault.CaseFault.TheVariants.{RowWide, TooMany, NoMemory}
use Rattle.deck_case.specs.declared.rows.Ends.{Ends}
use Rattle.deck_case.specs.Multipliers.{multiplier, times}
use Rattle.deck_case.specs.Sides.{Sides}
use Rattle.deck_case.specs.Wide.{has_wide, is_wide}

-- ---- numbers

-- the number, none where it is too wide
abbrev pub narrow : ℤ → Option ℤ
narrow z = if is_wide z then None else Some z

-- the least common multiple: it divides each common multiple
abbrev pub IsLcm : ℕ → ℕ → ℕ → Type 0
IsLcm a b l = (a ∣ l) × (b ∣ l) × ((k : ℕ) → a ∣ k → b ∣ k → l ∣ k)

-- the multiplier of these fractions, none where it is too wide
abbrev pub IsNarrowMultiplier : List Fraction → Option ℕ → Type 0
IsNarrowMultiplier fs found = MatchOption found (LARGEST_OF_CASE < multiplier fs) (λ m. (m ≡ multiplier fs) × (m ≤ LARGEST_OF_CASE))

-- the multiplier clears the number, whose denominator is one that a deck can have
pub record IsClearedBy (m : ℕ) (f : Fraction) : Type 0 where
  pub positive : pos 1 ≤ℤ f.den
  pub divides : unsigned_abs f.den ∣ m
  pub small : unsigned_abs f.den ≤ 10 ^ 18

abbrev pub IsNarrowTerm : ℕ × ℤ → Type 0
IsNarrowTerm t = unsigned_abs t.1 ≤ LARGEST_OF_CASE

-- ---- the ends of a row

-- the two sides times m
abbrev pub end_numbers : ℕ → Sides → List ℤ
end_numbers m s = option_to_list (option_map (times m) s.lower) ++ option_to_list (option_map (times m) s.upper)

-- these are the sides times m, and none where one of them is too wide
abbrev pub AreEnds : ℕ → Sides → Option Ends → Type 0
AreEnds m s None = has_wide (end_numbers m s) ≡ true
AreEnds m s (Some e) = (e.lower ≡ option_map (times m) s.lower) × (e.upper ≡ option_map (times m) s.upper) × (has_wide (end_numbers m s) ≡ false)

abbrev pub ends_of : Option ℤ → Option ℤ → Ends
ends_of lower upper = record { lower = lower; upper = upper }

-- the end that a range of this size gives
abbrev pub far_end : ℤ → Bool → ℤ → ℤ
far_end near down span = if down then near -ℤ pos (unsigned_abs span) else near +ℤ pos (unsigned_abs span)

-- ---- pairs

-- the numbers of the first constraint of each row and of each column, where there are not too many constraints
pub record AreFirsts (d : Deck) (rows columns : List ℕ) : Type 0 where
  pub deck : IsDeck d
  pub row_firsts : rows ≡ map (before_row d) (range_with_len 0 (length d.rows))
  pub column_firsts : columns ≡ map (before_column d) (range_with_len 0 (length d.columns))
  pub few : length (constraints_of d) ≤ MOST_CONSTRAINTS

abbrev pub pair_with : Quantity → Quantity → PairLine
pair_with a b = record { a = a; b = b }

-- ---- faults

-- the first of the lines that name what is too wide, or want of memory
abbrev pub IsFirstOf : List ℕ → CaseFault → Type 0
IsFirstOf lines (RowWide line) = slice_get lines 0 ≡ Some line
IsFirstOf lines (TooMany line) = ⊥
IsFirstOf lines (NoMemory error) = Unit {0}
