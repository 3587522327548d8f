-- The rows of a dictionary after a pivot.
use Rattle.std.specs.Prelude.{◌≡◌, ◌≢◌, ◌<◌, ◌^◌, ℕ, List, [], ◌∷◌, ◌++◌, Option, Some, None, length, slice_set}
use Rattle.lp_base.specs.Numbers.{narrow_bound}
use Rattle.dict.specs.Equations.{Equation, IsRow, IsReduced}
use Rattle.dict.specs.Exchanges.{Enters, IsNext, IsWideNext}
use Rattle.dict.specs.Dictionaries.{row_at}

-- the new row where there is one
abbrev pub next_or : Option Equation → Equation → Equation
next_or None old = old
next_or (Some q) old = q

-- new rows with their numbers, one more where there is one
abbrev pub with_next : List (ℕ × Equation) → ℕ → Option Equation → List (ℕ × Equation)
with_next fresh i None = fresh
with_next fresh i (Some q) = fresh ++ (i, q) ∷ []

-- the rows with the new ones in their places
abbrev pub written : List (ℕ × Equation) → List Equation → List Equation
written [] rows = rows
written (f ∷ fresh) rows = written fresh (slice_set rows f.0 f.1)

-- the rows after the exchange of the row with the place e
pub record IsAfter (places row e : ℕ) (before after : List Equation) : Type 0 where
  pub size : length after ≡ length before
  pub enters : Enters e (row_at before row) (row_at after row)
  pub is_row : IsRow narrow_bound places (row_at after row)
  pub reduced : IsReduced (row_at after row)
  pub next : (i : ℕ) → i < length before → i ≢ row → IsNext places e (row_at before i) (row_at after row) (row_at after i)

-- the exchange would lead to a number that is not narrow
pub record IsWidePlace (places row e : ℕ) (rows : List Equation) (at : ℕ × ℕ) : Type 0 where
  pub entering : Equation
  pub enters : Enters e (row_at rows row) entering
  pub within : at.0 < length rows
  pub other : at.0 ≢ row
  pub wide : IsWideNext places e at.1 (row_at rows at.0) entering
