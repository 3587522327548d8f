-- The case of a deck.
use Rattle.std.specs.Prelude.{◌≡◌, ◌≤◌, ◌<◌, ◌+◌, ◌&&◌, ℕ, Bool, true, false, pos, [], is_some, length, map, take, if◌then◌else◌}
use Rattle.std.specs.List.{enumerate_from}
use Rattle.lp_base.specs.declared.limits.TheConstants.{MOST_CONSTRAINTS}
use Rattle.sense.specs.Senses.{signed}
use Rattle.lpcc_case.specs.Cases.{instance_of}
use Rattle.lpcc_case.specs.Instance.{Instance}
use Rattle.decks.specs.Decks.{entries_of, pairs_made}
use Rattle.decks.specs.declared.deck.Column.{Column}
use Rattle.decks.specs.declared.deck.Deck.{Deck}
use Rattle.decks.specs.declared.deck.Letter.{Letter}
use Rattle.decks.specs.declared.deck.Letter.TheVariants.{L}
use Rattle.decks.specs.declared.deck.PairLine.{PairLine}
use Rattle.decks.specs.declared.deck.Quantity.{Quantity}
use Rattle.decks.specs.declared.deck.Quantity.TheVariants.{Col, Upc, Row}
use Rattle.decks.specs.declared.deck.Row as rows
use Rattle.deck_case.specs.CaseParts.{constraints_of, constraints_of_columns, constraints_of_rows, cost_of, offset_of, row_constraints, scale_of}
use Rattle.deck_case.specs.DeckPoints.{column_at, row_at}
use Rattle.deck_case.specs.Wide.{wide_lines}

-- ---- pairs

-- the pair's side is the upper one
abbrev pub is_upper : Letter → Bool
is_upper L = true
is_upper letter = false

-- how many constraints stand before those of row i, and of column j
abbrev pub before_row : Deck → ℕ → ℕ
before_row d i = length (constraints_of_rows d.entries (take i (enumerate_from 0 d.rows)))

abbrev pub before_column : Deck → ℕ → ℕ
before_column d j = length (row_constraints d) + length (constraints_of_columns (take j (enumerate_from 0 d.columns)))

-- the place of the side of a pair among the constraints of its row: of a G row the lower side, which is the first, and of an L row the upper side, which stands behind the lower side that a range gives
abbrev pub side_place : rows.Row → ℕ
side_place r = if is_upper r.letter && is_some r.range then 1 else 0

-- the place of the upper constraint of a column that is not fixed: behind the lower one, if it has one
abbrev pub upper_place : Column → ℕ
upper_place c = if is_some c.lower.value then 1 else 0

-- the number of the constraint that is tight where the quantity is zero: of a column it is the lower one, and of a column's
-- distance from its upper bound the upper one
abbrev pub side_number : Deck → Quantity → ℕ
side_number d (Col j) = before_column d j
side_number d (Upc j) = before_column d j + upper_place (column_at d j)
side_number d (Row i) = before_row d i + side_place (row_at d i)

abbrev pub pair_of : Deck → PairLine → ℕ × ℕ
pair_of d p = (side_number d p.a, side_number d p.b)

-- ---- the case

-- minimise the objective, with the other sign where it is to be greatest, over the constraints of the rows and columns, and in each
-- pair, those of the groups among them, with equality in one. The sign does not change the scale: it changes no denominator.
abbrev pub case_of_deck : Deck → Instance
case_of_deck d =
    let n = length d.columns in
    let es = entries_of d.entries d.objective in
    let r = row_at d d.objective in
    instance_of n (map (signed d.sense) (cost_of n es r)) (pos (scale_of es r)) (signed d.sense (offset_of es r)) d.sense (constraints_of d)
    (map (pair_of d) (pairs_made d))

-- nothing is too wide, and there are more constraints than a case may have
abbrev pub HasTooMany : Deck → Type 0
HasTooMany d = (wide_lines d ≡ []) × (MOST_CONSTRAINTS < length (constraints_of d))

-- the deck has this case
pub record HasCase (d : Deck) (a : Instance) : Type 0 where
  pub narrow : wide_lines d ≡ []
  pub few : length (constraints_of d) ≤ MOST_CONSTRAINTS
  pub made : a ≡ case_of_deck d
