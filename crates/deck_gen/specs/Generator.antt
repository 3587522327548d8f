-- The text of a generated deck: its numbers come from draws, and each is given by the number of its draw.
use Rattle.std.specs.Prelude.{◌==◌, ◌+◌, ◌*◌, ◌%◌, ◌≤◌, ℕ, zero, suc, List, [], ◌++◌, if◌then◌else◌, codes}
use Rattle.std.specs.Fmt.{decimal}
use Rattle.lp_base.specs.declared.limits.TheConstants.{MOST_COLUMNS, MOST_ENTRIES, MOST_PAIRS}
use Rattle.deck_gen.specs.declared.sizes.Sizes.{Sizes}
use Rattle.deck_gen.specs.declared.sizes.TheConstants.{MOST_GENERATED_ROWS}

-- ---- the draws

abbrev pub modulus : ℕ
modulus = 65537

-- the linear congruential generator with multiplier 75, increment 74 and this modulus
abbrev pub next_draw : ℕ → ℕ
next_draw s = (75 * s + 74) % modulus

-- the draw of this number, counted from 1; before the first one stands the seed
abbrev pub draw : ℕ → ℕ → ℕ
draw seed zero = seed % modulus
draw seed (suc k) = next_draw (draw seed k)

-- ---- the numbers: for each column a draw for its cost, then one for each row; after all columns a draw for each row

-- how many draws come before those of column j, counted from 0
abbrev pub draws_before : Sizes → ℕ → ℕ
draws_before z j = j * (z.rows + 1)

abbrev pub cost : Sizes → ℕ → ℕ
cost z j = draw z.seed (draws_before z j + 1) % 9 + 1

abbrev pub coefficient : Sizes → ℕ → ℕ → ℕ
coefficient z j i = draw z.seed (draws_before z j + 1 + (i + 1)) % 10

abbrev pub right_side : Sizes → ℕ → ℕ
right_side z i = draw z.seed (draws_before z z.columns + (i + 1)) % 50 + 1

-- ---- the lines; rows, columns and pairs are counted from 1 in texts

-- f 0, f 1 and so on, one behind another: n of them
abbrev pub joined : (ℕ → List ℕ) → ℕ → List ℕ
joined f zero = []
joined f (suc n) = joined f n ++ f n

abbrev pub name_line : Sizes → List ℕ
name_line z = codes "NAME gen-" ++ decimal z.seed ++ codes "-" ++ decimal z.columns ++ codes "-" ++ decimal z.rows ++ codes "-" ++ decimal z.pairs ++ codes "\n"

abbrev pub row_line : ℕ → List ℕ
row_line i = codes " G r" ++ decimal (i + 1) ++ codes "\n"

abbrev pub cost_line : ℕ → ℕ → List ℕ
cost_line j value = codes " x" ++ decimal (j + 1) ++ codes " cost " ++ decimal value ++ codes "\n"

-- an entry that is zero has no line
abbrev pub entry_line : ℕ → ℕ → ℕ → List ℕ
entry_line j i value = if value == 0 then [] else codes " x" ++ decimal (j + 1) ++ codes " r" ++ decimal (i + 1) ++ codes " " ++ decimal value ++ codes "\n"

abbrev pub entry_of : Sizes → ℕ → ℕ → List ℕ
entry_of z j i = entry_line j i (coefficient z j i)

abbrev pub column_lines : Sizes → ℕ → List ℕ
column_lines z j = cost_line j (cost z j) ++ joined (entry_of z j) z.rows

abbrev pub right_side_line : ℕ → ℕ → List ℕ
right_side_line i value = codes " rhs r" ++ decimal (i + 1) ++ codes " " ++ decimal value ++ codes "\n"

abbrev pub right_side_of : Sizes → ℕ → List ℕ
right_side_of z i = right_side_line i (right_side z i)

-- pair k joins columns 2 k and 2 k + 1, counted from 0
abbrev pub pair_line : ℕ → List ℕ
pair_line k = codes " p" ++ decimal (k + 1) ++ codes " COL x" ++ decimal (2 * k + 1) ++ codes " COL x" ++ decimal (2 * k + 2) ++ codes "\n"

-- ---- the text, section by section

abbrev pub rows_section : Sizes → List ℕ
rows_section z = codes "ROWS\n N cost\n" ++ joined row_line z.rows

abbrev pub columns_section : Sizes → List ℕ
columns_section z = codes "COLUMNS\n" ++ joined (column_lines z) z.columns

abbrev pub right_sides_section : Sizes → List ℕ
right_sides_section z = codes "RHS\n" ++ joined (right_side_of z) z.rows

abbrev pub pairs_section : Sizes → List ℕ
pairs_section z = if z.pairs == 0 then [] else codes "PAIRS\n" ++ joined pair_line z.pairs

abbrev pub deck_text : Sizes → List ℕ
deck_text z = name_line z ++ rows_section z ++ columns_section z ++ right_sides_section z ++ pairs_section z ++ codes "ENDATA\n"

-- ---- the range

-- at least one column and one row; two columns for each pair; no more columns, pairs and entries than a deck may have, the costs being entries too
pub record IsInRange (columns rows pairs : ℕ) : Type 0 where
  pub some_columns : 1 ≤ columns
  pub few_columns : columns ≤ MOST_COLUMNS
  pub some_rows : 1 ≤ rows
  pub few_rows : rows ≤ MOST_GENERATED_ROWS
  pub few_pairs : pairs ≤ MOST_PAIRS
  pub own_columns : 2 * pairs ≤ columns
  pub few_entries : rows * columns + columns ≤ MOST_ENTRIES
