-- Solutions read off a dictionary: the point at which all nonbasic forms are 0, and the direction in which one of them goes alone.
use Rattle.std.specs.Prelude.{◌<◌, ◌⊎◌, ℕ, ℤ, pos, ◌*ℤ◌, Bool, List, slice_index_or}
use Rattle.lp_base.specs.Numbers.{IsNarrow}
use Rattle.dict.specs.Terms.{only}
use Rattle.dict.specs.Dictionaries.{Dictionary}
use Rattle.dict.specs.Exchanges.{turn}
use Rattle.walks.specs.Bases.{IsBase}

-- the number of column c
abbrev pub number_in : List ℤ → ℕ → ℤ
number_in xs c = slice_index_or xs c (pos 0)

-- at the point x / one all nonbasic forms are 0
abbrev pub IsBasicPoint : Dictionary → (ℕ → ℤ) → ℤ → Type 0
IsBasicPoint d x one = IsBase d (λ j. pos 0) x one

-- along x, made longer or shorter, nonbasic form e goes up, or down, and every other one stays where it is
pub record IsDirection (d : Dictionary) (down : Bool) (e : ℕ) (x : ℕ → ℤ) : Type 0 where
  pub times : ℕ
  pub positive : 0 < times
  pub step : ℕ
  pub goes : 0 < step
  pub base : IsBase d (λ j. turn down (only e j) *ℤ pos step) (λ c. x c *ℤ pos times) (pos 0)

-- of the first n numbers one is not narrow
abbrev pub IsWide : ℕ → (ℕ → ℤ) → Type 0
IsWide n x = (c : ℕ) × (c < n) × (IsNarrow (x c) → ⊥)

-- of the numbers of the point x / one, one is not narrow
abbrev pub IsWidePoint : ℕ → (ℕ → ℤ) → ℤ → Type 0
IsWidePoint n x one = (IsNarrow one → ⊥) ⊎ IsWide n x
