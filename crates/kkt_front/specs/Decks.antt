-- The decks that the texts spell, ENDATA standing on a line of this number.
use Rattle.std.specs.Prelude.{◌+◌, ℕ, ℤ, pos, neg_ℤ, false, List, [], ◌∷◌, ◌++◌, None, map, length, if◌then◌else◌}
use Rattle.std.specs.List.{flat_map, range_with_len}
use Rattle.sense.specs.declared.objective.Sense.TheVariants.{Min}
use Rattle.decks.specs.Bounds.{default_column}
use Rattle.decks.specs.declared.deck.Column.{Column}
use Rattle.decks.specs.declared.deck.Deck.{Deck}
use Rattle.decks.specs.declared.deck.Entry.{Entry}
use Rattle.decks.specs.declared.deck.Letter.{Letter}
use Rattle.decks.specs.declared.deck.Letter.TheVariants.{N, E, G}
use Rattle.decks.specs.declared.deck.PairLine.{PairLine}
use Rattle.decks.specs.declared.deck.Quantity.TheVariants.{Col, Row}
use Rattle.decks.specs.declared.deck.Row as rows
use Rattle.deck_case.specs.DeckVerdicts.{whole}
use Rattle.front_text.specs.declared.problem.Bilevel.{Bilevel}
use Rattle.front_text.specs.declared.problem.Lcp.{Lcp}
use Rattle.front_text.specs.Problems.{coefficient_at}
use Rattle.kkt_front.specs.DeckTexts.{is_zero, line_at, number_at, row_of}

-- n of them
abbrev pub listed : {X : Type 0} → (ℕ → X) → ℕ → List X
listed f n = map f (range_with_len 0 n)

abbrev pub row : Letter → ℕ → ℤ → rows.Row
row letter line right = record { letter = letter; line = line; rhs = whole right; range = None }

abbrev pub entry : ℕ → ℕ → ℤ → Entry
entry column row value = record { column = column; row = row; value = whole value }

-- an entry that is zero is left out
abbrev pub entry_if : ℕ → ℕ → ℤ → List Entry
entry_if column row value = if is_zero value then [] else entry column row value ∷ []

-- the entries of a column in n rows, of which the first has this number
abbrev pub block : ℕ → ℕ → (ℕ → ℤ) → ℕ → List Entry
block column first coefficient n = flat_map (λ i. entry_if column (first + i) (coefficient i)) (range_with_len 0 n)

-- the row of this number is at its right-hand side, or the column is 0
abbrev pub pair : ℕ → ℕ → PairLine
pair row column = record { a = Row row; b = Col column }

-- ---- a complementarity problem: the objective and G rows, a column for each variable, and a pair of row and column

abbrev pub lcp_row : Lcp → ℕ → rows.Row
lcp_row p i = row G (4 + i) (neg_ℤ (number_at p.q i))

abbrev pub lcp_entries : Lcp → ℕ → List Entry
lcp_entries p j = entry j 0 (pos 0) ∷ block j 1 (λ i. coefficient_at (row_of p i) j) p.size

abbrev pub lcp_pair : ℕ → PairLine
lcp_pair i = pair (1 + i) i

abbrev pub lcp_deck : Lcp → ℕ → Deck
lcp_deck p end = record {
  sense = Min;
  rows = row N 3 (pos 0) ∷ listed (lcp_row p) p.size;
  objective = 0;
  columns = listed (λ j. default_column) p.size;
  entries = flat_map (lcp_entries p) (range_with_len 0 p.size);
  pairs = listed lcp_pair p.size;
  groups = [];
  end_line = end;
}

-- ---- a bilevel problem: the objective, G rows for the lines, E rows for y; a free column for each variable, and one for each multiplier

abbrev pub free_column : ℕ → Column
free_column line = record { lower = record { value = None; line = line }; upper = record { value = None; line = line }; fixed = false }

abbrev pub ups : Bilevel → ℕ
ups b = length b.up

abbrev pub lows : Bilevel → ℕ
lows b = length b.low

abbrev pub up_row : Bilevel → ℕ → rows.Row
up_row b i = row G (4 + i) (line_at b.up i).rhs

abbrev pub low_row : Bilevel → ℕ → rows.Row
low_row b i = row G (4 + ups b + i) (line_at b.low i).rhs

abbrev pub follow_row : Bilevel → ℕ → rows.Row
follow_row b k = row E (4 + ups b + lows b + k) (number_at b.follow k)

abbrev pub variable_entries : Bilevel → ℕ → List Entry
variable_entries b j =
    entry j 0 (number_at b.cost j) ∷ block j 1 (λ i. coefficient_at (line_at b.up i).terms j) (ups b) ++ block j (1 + ups b) (λ i. coefficient_at (line_at b.low i).terms j) (lows b)

abbrev pub multiplier_entries : Bilevel → ℕ → List Entry
multiplier_entries b i =
    entry (b.nx + b.ny + i) 0 (pos 0) ∷ block (b.nx + b.ny + i) (1 + ups b + lows b) (λ k. coefficient_at (line_at b.low i).terms (b.nx + k)) b.ny

abbrev pub bilevel_pair : Bilevel → ℕ → PairLine
bilevel_pair b i = pair (1 + ups b + i) (b.nx + b.ny + i)

-- the lines of BOUNDS begin with this number
abbrev pub bilevel_deck : Bilevel → ℕ → ℕ → Deck
bilevel_deck b bounds end = record {
  sense = Min;
  rows = row N 3 (pos 0) ∷ listed (up_row b) (ups b) ++ listed (low_row b) (lows b) ++ listed (follow_row b) b.ny;
  objective = 0;
  columns = listed (λ j. free_column (bounds + j)) (b.nx + b.ny) ++ listed (λ i. default_column) (lows b);
  entries = flat_map (variable_entries b) (range_with_len 0 (b.nx + b.ny)) ++ flat_map (multiplier_entries b) (range_with_len 0 (lows b));
  pairs = listed (bilevel_pair b) (lows b);
  groups = [];
  end_line = end;
}
