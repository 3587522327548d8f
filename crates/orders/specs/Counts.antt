-- How many choices of k of n things there are, and lists of marks as such choices.
use Rattle.std.specs.Prelude.{◌≡◌, ⊤, ℕ, zero, suc, ◌+◌, Bool, true, false, List, [], ◌∷◌, length}
use Rattle.std.specs.List.{AllByRecursion}

-- the binomial coefficient, by Pascal's rule
abbrev pub choose : ℕ → ℕ → ℕ
choose n zero = 1
choose zero (suc k) = 0
choose (suc n) (suc k) = choose n k + choose n (suc k)

-- how many marks are set
abbrev pub count_set : List Bool → ℕ
count_set [] = 0
count_set (true ∷ bs) = suc (count_set bs)
count_set (false ∷ bs) = count_set bs

-- n marks, k of them set
abbrev pub IsChoiceOf : ℕ → ℕ → List Bool → Type 0
IsChoiceOf n k bs = (length bs ≡ n) × (count_set bs ≡ k)

-- no two of the lists are the same
abbrev pub AreApart : List (List Bool) → Type 0
AreApart [] = ⊤
AreApart (b ∷ bs) = AllByRecursion (λ c. b ≡ c → ⊥) bs × AreApart bs
