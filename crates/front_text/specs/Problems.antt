-- Problems, and the rules that they keep.
use Rattle.std.specs.Prelude.{◌≡◌, ◌≢◌, ◌≤◌, ◌<◌, ◌+◌, ◌&&◌, ◌==◌, nat_le, ℕ, ℤ, pos, Bool, true, if◌then◌else◌, List, [], ◌∷◌, All, IsTrue, length, map, count_by, unsigned_abs}
use Rattle.std.specs.List.{range_with_len}
use Rattle.lp_base.specs.Ascending.{ascends_by, number_of}
use Rattle.lp_base.specs.declared.limits.TheConstants.{LARGEST_OF_CASE, MOST_COLUMNS, MOST_CONSTRAINTS, MOST_ENTRIES, MOST_PAIRS, MOST_ROWS}
use Rattle.front_text.specs.declared.problem.Bilevel.{Bilevel}
use Rattle.front_text.specs.declared.problem.Lcp.{Lcp}
use Rattle.front_text.specs.declared.problem.Line.{Line}

-- variables, counted from 0, with their coefficients
abbrev pub Terms : Type 0
Terms = List (ℕ × ℤ)

-- the coefficient of variable j, 0 where no term names it
abbrev pub coefficient_at : Terms → ℕ → ℤ
coefficient_at [] j = pos 0
coefficient_at (t ∷ ts) j = if t.0 == j then t.1 else coefficient_at ts j

-- the coefficients of n variables, from this one on
abbrev pub coefficients : ℕ → ℕ → Terms → List ℤ
coefficients first n ts = map (coefficient_at ts) (range_with_len first n)

-- at most 2^52 in size, as the numbers of a case are
abbrev pub fits : ℤ → Bool
fits z = nat_le (unsigned_abs z) LARGEST_OF_CASE

abbrev pub Fits : ℤ → Type 0
Fits z = IsTrue (fits z)

-- terms that name variables from `least` on and below `count` in ascending order, with numbers that fit a case and are not 0
pub record AreTerms (least count : ℕ) (ts : Terms) : Type 0 where
  pub ascending : IsTrue (ascends_by number_of ts)
  pub named : All (λ t. (least ≤ t.0) × (t.0 < count)) ts
  pub numbers : All (λ t. Fits t.1 × (t.1 ≢ pos 0)) ts

-- ---- the size of the deck

abbrev pub number_of_terms : List Terms → ℕ
number_of_terms [] = 0
number_of_terms (ts ∷ rest) = length ts + number_of_terms rest

-- how many of each a deck and its case have
pub record Counts : Type 0 where
  pub columns : ℕ
  pub rows : ℕ
  pub entries : ℕ
  pub pairs : ℕ
  pub constraints : ℕ

-- no more of each than a deck and its case may have
abbrev pub are_few : Counts → Bool
are_few c = nat_le c.columns MOST_COLUMNS && nat_le c.rows MOST_ROWS && nat_le c.entries MOST_ENTRIES && nat_le c.pairs MOST_PAIRS && nat_le c.constraints MOST_CONSTRAINTS

-- a column and a row for each variable, with a pair of both; an entry for each cost and each term; a constraint for each row and each column
abbrev pub lcp_counts : ℕ → List Terms → Counts
lcp_counts n rows = record { columns = n; rows = n; entries = n + number_of_terms rows; pairs = n; constraints = n + n }

abbrev pub terms_of : Line → Terms
terms_of line = line.terms

-- the terms of y variables
abbrev pub number_of_followers : ℕ → List Terms → ℕ
number_of_followers nx [] = 0
number_of_followers nx (ts ∷ rest) = count_by (λ t. nat_le nx t.0) ts + number_of_followers nx rest

-- A column for each variable and each line of `low`. A row for each line and each y, whose entries are the coefficients of this y in the lines of `low`.
-- A pair and one more constraint for each line of `low`.
abbrev pub bilevel_counts : ℕ → ℕ → List Terms → List Terms → Counts
bilevel_counts nx ny up low =
    let columns = nx + ny + length low in
    let rows = length up + length low + ny in
    record {
      columns = columns;
      rows = rows;
      entries = columns + (number_of_terms up + (number_of_terms low + number_of_followers nx low));
      pairs = length low;
      constraints = rows + length low;
    }

-- ---- problems

pub record IsLcp (p : Lcp) : Type 0 where
  pub some : 1 ≤ p.size
  pub numbers : length p.q ≡ p.size
  pub fitting : All Fits p.q
  pub size : length p.rows ≡ p.size
  pub rows : All (AreTerms 0 p.size) p.rows
  pub few : are_few (lcp_counts p.size p.rows) ≡ true

abbrev pub IsLine : ℕ → Line → Type 0
IsLine count line = Fits line.rhs × AreTerms 0 count line.terms

pub record IsBilevel (p : Bilevel) : Type 0 where
  pub some_x : 1 ≤ p.nx
  pub some_y : 1 ≤ p.ny
  pub costs : length p.cost ≡ p.nx + p.ny
  pub fitting : All Fits p.cost
  pub followed : length p.follow ≡ p.ny
  pub follow_fitting : All Fits p.follow
  pub up : All (IsLine (p.nx + p.ny)) p.up
  pub low : All (IsLine (p.nx + p.ny)) p.low
  pub few : are_few (bilevel_counts p.nx p.ny (map terms_of p.up) (map terms_of p.low)) ≡ true
