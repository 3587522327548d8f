-- Sparse sums: lists of terms, each a place and a number.
use Rattle.std.specs.Prelude.{◌≤◌, ◌<◌, ℕ, ◌+◌, ℤ, pos, ◌*ℤ◌, List, [], ◌∷◌, nat_eq, unsigned_abs, if◌then◌else◌}
use Rattle.lp_base.specs.Sums.{sum_over}

-- the sum of the terms, where place j is worth v j
abbrev pub weigh : List (ℕ × ℤ) → (ℕ → ℤ) → ℤ
weigh ts v = sum_over (λ t. t.1 *ℤ v t.0) ts

-- worth 1 at one place, and 0 at every other
abbrev pub only : ℕ → ℕ → ℤ
only k j = if nat_eq j k then pos 1 else pos 0

-- worth 0 at one place, and as before at every other
abbrev pub without : ℕ → (ℕ → ℤ) → ℕ → ℤ
without e v j = if nat_eq j e then pos 0 else v j

-- places that ascend strictly, from low on and below high, with numbers that are not zero and below the bound in size
abbrev pub AreTerms : ℕ → ℕ → ℕ → List (ℕ × ℤ) → Type 0
AreTerms bound low high [] = low ≤ high
AreTerms bound low high (t ∷ ts) = (low ≤ t.0) × (0 < unsigned_abs t.1) × (unsigned_abs t.1 < bound) × AreTerms bound (t.0 + 1) high ts
