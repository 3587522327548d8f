-- Under `yes`: what a deck says of a point x / d, in its own words and in fractions.
use Rattle.std.specs.Prelude.{◌≡◌, ◌≢◌, ℕ, pos, List, All, Option, None, Some, IfSome, ◌⊎◌, map, slice_get, slice_index_or, length}
use Rattle.lp_nums.specs.Fractions.{Fraction, SameValue}
use Rattle.lpcc_case.specs.Points.{Point}
use Rattle.decks.specs.Bounds.{default_column}
use Rattle.decks.specs.Decks.{entries_of}
use Rattle.decks.specs.declared.deck.Column.{Column}
use Rattle.decks.specs.declared.deck.Deck.{Deck}
use Rattle.decks.specs.declared.deck.Letter.TheVariants.{N}
use Rattle.decks.specs.declared.deck.Quantity.{Quantity}
use Rattle.decks.specs.declared.deck.Quantity.TheVariants.{Col, Upc, Row}
use Rattle.decks.specs.declared.deck.Row as rows
use Rattle.deck_case.specs.Rationals.{IsAtMost, minus, product, total}
use Rattle.deck_case.specs.Sides.{sides}

-- what stands where there is no row
abbrev pub no_row : rows.Row
no_row = record { letter = N; line = 0; rhs = record { num = pos 0; den = pos 1 }; range = None }

abbrev pub row_at : Deck → ℕ → rows.Row
row_at d i = slice_index_or d.rows i no_row

abbrev pub column_at : Deck → ℕ → Column
column_at d j = slice_index_or d.columns j default_column

abbrev pub column_value : {n : ℕ} → Point n → ℕ → Fraction
column_value p j = record { num = slice_index_or p.x j (pos 0); den = pos p.d }

-- the sum over the entries of a row
abbrev pub row_value : {n : ℕ} → Deck → ℕ → Point n → Fraction
row_value d row p = total (map (λ e. product e.value (column_value p e.column)) (entries_of d.entries row))

-- at least the lower and at most the upper end, as far as there are ends
pub record IsWithin (lower upper : Option Fraction) (v : Fraction) : Type 0 where
  pub above : IfSome lower (λ b. IsAtMost b v)
  pub below : IfSome upper (λ b. IsAtMost v b)

-- a column that is 0, a column at its upper bound, or a row at its right-hand side
abbrev pub IsZeroAt : {n : ℕ} → Deck → Point n → Quantity → Type 0
IsZeroAt d p (Col j) = (column_value p j).num ≡ pos 0
IsZeroAt d p (Upc j) = (c : Column) (v : Fraction) → slice_get d.columns j ≡ Some c → c.upper.value ≡ Some v → SameValue (column_value p j) v
IsZeroAt d p (Row i) = (r : rows.Row) → slice_get d.rows i ≡ Some r → SameValue (row_value d i p) r.rhs

-- at most one of the items, by place, is not zero
abbrev pub IsOneOffAt : {n : ℕ} → Deck → Point n → List Quantity → Type 0
IsOneOffAt d p items =
    (i j : ℕ) (a b : Quantity) → slice_get items i ≡ Some a → slice_get items j ≡ Some b → (IsZeroAt d p a → ⊥) → (IsZeroAt d p b → ⊥) → i ≡ j

-- each row but the objective is within its sides, each column within its bounds, in each pair of PAIRS one is zero, and of the items of
-- each group at most one is not
pub record MeetsDeck (d : Deck) (p : Point (length d.columns)) : Type 0 where
  pub rows : (k : ℕ) (r : rows.Row) → slice_get d.rows k ≡ Some r → k ≢ d.objective → IsWithin (sides r.letter r.rhs r.range).lower (sides r.letter r.rhs r.range).upper (row_value d k p)
  pub columns : (j : ℕ) (c : Column) → slice_get d.columns j ≡ Some c → IsWithin c.lower.value c.upper.value (column_value p j)
  pub pairs : All (λ q. IsZeroAt d p q.a ⊎ IsZeroAt d p q.b) d.pairs
  pub groups : All (λ g. IsOneOffAt d p g.items) d.groups

-- the objective with its constant: a right-hand side of the objective counts with the other sign
abbrev pub objective_value : (d : Deck) → rows.Row → Point (length d.columns) → Fraction
objective_value d objective p = minus (row_value d d.objective p) objective.rhs
