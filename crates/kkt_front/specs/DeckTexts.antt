-- The text of the deck of a problem. A name is a letter and a number; rows, columns and pairs are counted from 0 here, and from 1 in texts.
use Rattle.std.specs.Prelude.{◌==◌, ◌+◌, ℕ, ℤ, pos, neg_ℤ, unsigned_abs, Bool, ◌&&◌, List, [], ◌++◌, length, slice_index_or, if◌then◌else◌, codes}
use Rattle.std.specs.List.{list_all}
use Rattle.std.specs.Fmt.{decimal, signed_decimal}
use Rattle.deck_gen.specs.Generator.{joined}
use Rattle.front_text.specs.declared.problem.Bilevel.{Bilevel}
use Rattle.front_text.specs.declared.problem.Lcp.{Lcp}
use Rattle.front_text.specs.declared.problem.Line.{Line}
use Rattle.front_text.specs.Problems.{Terms, coefficient_at}

-- ---- the parts of problems

abbrev pub number_at : List ℤ → ℕ → ℤ
number_at xs i = slice_index_or xs i (pos 0)

abbrev pub row_of : Lcp → ℕ → Terms
row_of p i = slice_index_or p.rows i []

-- 0 is at least 0: what stands past the last line
abbrev pub no_line : Line
no_line = record { rhs = pos 0; terms = [] }

abbrev pub line_at : List Line → ℕ → Line
line_at lines i = slice_index_or lines i no_line

abbrev pub is_zero : ℤ → Bool
is_zero z = unsigned_abs z == 0

-- ---- lines

-- a text, and the number of what is counted k
abbrev pub numbered : List ℕ → ℕ → List ℕ
numbered front k = front ++ decimal (k + 1)

abbrev pub numbered_line : List ℕ → ℕ → List ℕ
numbered_line front k = numbered front k ++ codes "\n"

-- a value behind a blank
abbrev pub value_end : ℤ → List ℕ
value_end value = codes " " ++ signed_decimal value ++ codes "\n"

abbrev pub cost_line : List ℕ → ℕ → ℤ → List ℕ
cost_line column j value = numbered column j ++ codes " cost" ++ value_end value

-- an entry that is zero has no line
abbrev pub entry_line : List ℕ → ℕ → List ℕ → ℕ → ℤ → List ℕ
entry_line column j row i value = if is_zero value then [] else numbered column j ++ numbered row i ++ value_end value

abbrev pub right_line : List ℕ → ℕ → ℤ → List ℕ
right_line row i value = if is_zero value then [] else numbered row i ++ value_end value

abbrev pub pair_line : List ℕ → List ℕ → ℕ → List ℕ
pair_line row column i = numbered (codes " p") i ++ numbered row i ++ numbered column i ++ codes "\n"

-- ---- the deck of a complementarity problem

abbrev pub lcp_rows : Lcp → List ℕ
lcp_rows p = codes "ROWS\n N cost\n" ++ joined (numbered_line (codes " G w")) p.size

abbrev pub lcp_entry : Lcp → ℕ → ℕ → List ℕ
lcp_entry p j i = entry_line (codes " z") j (codes " w") i (coefficient_at (row_of p i) j)

abbrev pub lcp_column : Lcp → ℕ → List ℕ
lcp_column p j = cost_line (codes " z") j (pos 0) ++ joined (lcp_entry p j) p.size

abbrev pub lcp_columns : Lcp → List ℕ
lcp_columns p = codes "COLUMNS\n" ++ joined (lcp_column p) p.size

abbrev pub lcp_right : Lcp → ℕ → List ℕ
lcp_right p i = right_line (codes " rhs w") i (neg_ℤ (number_at p.q i))

abbrev pub lcp_rights : Lcp → List ℕ
lcp_rights p = if list_all is_zero p.q then [] else codes "RHS\n" ++ joined (lcp_right p) p.size

abbrev pub lcp_pairs : Lcp → List ℕ
lcp_pairs p = codes "PAIRS\n" ++ joined (pair_line (codes " ROW w") (codes " COL z")) p.size

abbrev pub lcp_text : Lcp → List ℕ
lcp_text p = codes "NAME lcp\n" ++ lcp_rows p ++ lcp_columns p ++ lcp_rights p ++ lcp_pairs p ++ codes "ENDATA\n"

-- ---- the deck of a bilevel problem

abbrev pub bilevel_rows : Bilevel → List ℕ
bilevel_rows p =
    codes "ROWS\n N cost\n" ++ joined (numbered_line (codes " G u")) (length p.up) ++ joined (numbered_line (codes " G l")) (length p.low)
    ++ joined (numbered_line (codes " E s")) p.ny

-- the entry of variable j in line i
abbrev pub line_entry : List ℕ → List Line → ℕ → ℕ → List ℕ
line_entry row lines j i = entry_line (codes " v") j row i (coefficient_at (line_at lines i).terms j)

abbrev pub variable_column : Bilevel → ℕ → List ℕ
variable_column p j =
    cost_line (codes " v") j (number_at p.cost j) ++ joined (line_entry (codes " u") p.up j) (length p.up) ++ joined (line_entry (codes " l") p.low j) (length p.low)

-- the entry of the multiplier of line i of `low` in the row of y variable k
abbrev pub multiplier_entry : Bilevel → ℕ → ℕ → List ℕ
multiplier_entry p i k = entry_line (codes " m") i (codes " s") k (coefficient_at (line_at p.low i).terms (p.nx + k))

abbrev pub multiplier_column : Bilevel → ℕ → List ℕ
multiplier_column p i = cost_line (codes " m") i (pos 0) ++ joined (multiplier_entry p i) p.ny

abbrev pub bilevel_columns : Bilevel → List ℕ
bilevel_columns p = codes "COLUMNS\n" ++ joined (variable_column p) (p.nx + p.ny) ++ joined (multiplier_column p) (length p.low)

abbrev pub line_right : List ℕ → List Line → ℕ → List ℕ
line_right row lines i = right_line row i (line_at lines i).rhs

abbrev pub follow_right : Bilevel → ℕ → List ℕ
follow_right p k = right_line (codes " rhs s") k (number_at p.follow k)

abbrev pub has_zero : Line → Bool
has_zero line = is_zero line.rhs

abbrev pub has_no_rights : Bilevel → Bool
has_no_rights p = list_all has_zero p.up && (list_all has_zero p.low && list_all is_zero p.follow)

abbrev pub right_lines : Bilevel → List ℕ
right_lines p =
    codes "RHS\n" ++ joined (line_right (codes " rhs u") p.up) (length p.up) ++ joined (line_right (codes " rhs l") p.low) (length p.low) ++ joined (follow_right p) p.ny

abbrev pub bilevel_rights : Bilevel → List ℕ
bilevel_rights p = if has_no_rights p then [] else right_lines p

abbrev pub bilevel_bounds : Bilevel → List ℕ
bilevel_bounds p = codes "BOUNDS\n" ++ joined (numbered_line (codes " FR bnd v")) (p.nx + p.ny)

abbrev pub bilevel_pairs : Bilevel → List ℕ
bilevel_pairs p = if length p.low == 0 then [] else codes "PAIRS\n" ++ joined (pair_line (codes " ROW l") (codes " COL m")) (length p.low)

abbrev pub bilevel_text : Bilevel → List ℕ
bilevel_text p =
    codes "NAME bilevel\n" ++ bilevel_rows p ++ bilevel_columns p ++ bilevel_rights p ++ bilevel_bounds p ++ bilevel_pairs p ++ codes "ENDATA\n"
