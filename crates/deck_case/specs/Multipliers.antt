-- Making fractions whole: the least multiplier, and what it makes of them.
use Rattle.std.specs.Prelude.{◌≤◌, ◌<◌, ◌≤ℤ◌, All, ℕ, zero, suc, ◌+◌, ◌*◌, ◌%◌, ◌==◌, ℤ, pos, ◌*ℤ◌, Bool, IsTrue, if◌then◌else◌, List, [], ◌∷◌, int_div, unsigned_abs}
use Rattle.std.specs.List.{list_all}
use Rattle.lp_nums.specs.Fractions.{Fraction}

-- whether m times each fraction is whole: each denominator divides m
abbrev pub clears : List Fraction → ℕ → Bool
clears fs m = list_all (λ f. (m % unsigned_abs f.den) == 0) fs

-- the first of n, n + 1, .. that passes the test, of so many numbers and the one behind them
abbrev pub first_from : (ℕ → Bool) → ℕ → ℕ → ℕ
first_from test zero n = n
first_from test (suc count) n = if test n then n else first_from test count (n + 1)

abbrev pub product_of_dens : List Fraction → ℕ
product_of_dens [] = 1
product_of_dens (f ∷ fs) = unsigned_abs f.den * product_of_dens fs

-- the least positive whole number that clears the fractions; the product of the denominators is one that does
abbrev pub multiplier : List Fraction → ℕ
multiplier fs = first_from (clears fs) (product_of_dens fs) 1

-- m times f, where that is whole
abbrev pub times : ℕ → Fraction → ℤ
times m f = int_div (f.num *ℤ pos m) f.den

abbrev pub ArePositive : List Fraction → Type 0
ArePositive fs = All (λ f. pos 1 ≤ℤ f.den) fs

-- no lesser positive whole number clears the fractions
pub record IsLeastMultiplier (fs : List Fraction) (m : ℕ) : Type 0 where
  pub positive : 0 < m
  pub cleared : IsTrue (clears fs m)
  pub least : (k : ℕ) → 0 < k → IsTrue (clears fs k) → m ≤ k
