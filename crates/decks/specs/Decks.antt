-- Under `yes`: the facts that a deck keeps.
use Rattle.std.specs.Prelude.{◌≡◌, ◌≢◌, ◌≤◌, ◌<◌, ◌+◌, ◌^◌, ◌==◌, ℕ, zero as nought, suc, pos, Bool, true, false, List, [], ◌∷◌, ◌++◌, All, IsTrue, IfSome, Some, filter, length, map, slice_get, unsigned_abs}
use Rattle.std.specs.List.{flat_map}
use Rattle.lp_base.specs.Ascending.{ascends_by}
use Rattle.lp_base.specs.declared.limits.TheConstants.{MOST_COLUMNS, MOST_ENTRIES, MOST_PAIRS, MOST_ROWS}
use Rattle.lp_nums.specs.Fractions.{Fraction, IsReduced}
use Rattle.decks.specs.declared.deck.Column.{Column}
use Rattle.decks.specs.declared.deck.Deck.{Deck}
use Rattle.decks.specs.declared.deck.Entry.{Entry}
use Rattle.decks.specs.declared.deck.GroupLine.{GroupLine}
use Rattle.decks.specs.declared.deck.PairLine.{PairLine}
use Rattle.decks.specs.declared.deck.Row as rows
use Rattle.decks.specs.declared.deck.Quantity.{Quantity}
use Rattle.decks.specs.declared.deck.Quantity.TheVariants.{Col, Upc, Row}
use Rattle.decks.specs.declared.deck.Letter.{Letter}
use Rattle.decks.specs.declared.deck.Letter.TheVariants.{N, L, G}

abbrev pub entry_column : Entry → ℕ
entry_column e = e.column

-- the entries of a row, in file order
abbrev pub entries_of : List Entry → ℕ → List Entry
entries_of entries row = filter (λ e. e.row == row) entries

abbrev pub zero : Fraction
zero = record { num = pos 0; den = pos 1 }

-- a number that a decimal text of a deck can spell, in lowest terms
pub record IsDeckNumber (f : Fraction) : Type 0 where
  pub lowest : IsReduced f
  pub num : unsigned_abs f.num < 10 ^ 36
  pub den : unsigned_abs f.den ≤ 10 ^ 18

pub record IsRow (r : rows.Row) : Type 0 where
  pub right_side : IsDeckNumber r.rhs
  pub range : IfSome r.range IsDeckNumber

-- a fixed column has one number as both bounds
pub record IsColumn (c : Column) : Type 0 where
  pub lower : IfSome c.lower.value IsDeckNumber
  pub upper : IfSome c.upper.value IsDeckNumber
  pub fixed : c.fixed ≡ true → (v : Fraction) × (c.lower.value ≡ Some v) × (c.upper.value ≡ Some v)

-- ---- pairs

-- each two of a list, the first before the second: by the place of the first, and then by that of the second
abbrev pub twos : List Quantity → List PairLine
twos [] = []
twos (a ∷ items) = map (λ b. record { a = a; b = b }) items ++ twos items

-- how many pairs so many further items of a group make that has n: each makes one with each item before it
abbrev pub new_pairs : ℕ → ℕ → ℕ
new_pairs n nought = 0
new_pairs n (suc more) = n + new_pairs (n + 1) more

-- the pairs of each group, in order
abbrev pub group_pairs : List GroupLine → List PairLine
group_pairs groups = flat_map (λ g. twos g.items) groups

-- the pairs of PAIRS, and behind them those of the groups
abbrev pub pairs_made : Deck → List PairLine
pairs_made d = d.pairs ++ group_pairs d.groups

-- ---- quantities

-- pairs and groups speak of L and G rows
abbrev pub is_inequality : Letter → Bool
is_inequality L = true
is_inequality G = true
is_inequality letter = false

-- a column that is not fixed and has the lower bound 0; by its distance from its upper bound, one that is not fixed and has
-- an upper bound; or an L or G row
abbrev pub NamesQuantity : Deck → Quantity → Type 0
NamesQuantity d (Col j) = (c : Column) × (slice_get d.columns j ≡ Some c) × (c.fixed ≡ false) × (c.lower.value ≡ Some zero)
NamesQuantity d (Upc j) = (c : Column) × (slice_get d.columns j ≡ Some c) × (c.fixed ≡ false) × ((v : Fraction) × (c.upper.value ≡ Some v))
NamesQuantity d (Row i) = (r : rows.Row) × (slice_get d.rows i ≡ Some r) × (is_inequality r.letter ≡ true)

pub record IsDeck (d : Deck) : Type 0 where
  pub few_rows : length d.rows ≤ MOST_ROWS + 1
  pub few_columns : length d.columns ≤ MOST_COLUMNS
  pub few_entries : length d.entries ≤ MOST_ENTRIES
  pub few_pairs : length (pairs_made d) ≤ MOST_PAIRS
  pub objective : (r : rows.Row) × (slice_get d.rows d.objective ≡ Some r) × (r.letter ≡ N)
  pub others : (k : ℕ) (r : rows.Row) → slice_get d.rows k ≡ Some r → k ≢ d.objective → r.letter ≢ N
  pub rows : All IsRow d.rows
  pub columns : All IsColumn d.columns
  pub entries_named : All (λ e. (e.column < length d.columns) × (e.row < length d.rows)) d.entries
  pub entry_values : All (λ e. IsDeckNumber e.value) d.entries
  -- a row has one entry for a column, and the columns' lines stand together
  pub ascending : (row : ℕ) → IsTrue (ascends_by entry_column (entries_of d.entries row))
  pub pairs_named : All (λ p. NamesQuantity d p.a × NamesQuantity d p.b) d.pairs
  pub groups_named : All (λ g. All (NamesQuantity d) g.items) d.groups
