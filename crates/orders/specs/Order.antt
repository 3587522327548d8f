-- The lexicographic order of values with parts: the first part that is not 0 decides the sign. A value is a function that gives part p at p.
use Rattle.std.specs.Prelude.{◌≡◌, ◌<◌, ◌<ℤ◌, ℕ, ℤ, pos, ◌*ℤ◌, ◌-ℤ◌, neg_ℤ}

-- of the first n parts the first that is not 0 is above 0
pub record IsAbove (n : ℕ) (v : ℕ → ℤ) : Type 0 where
  pub at : ℕ
  pub within : at < n
  pub before : (q : ℕ) → q < at → v q ≡ pos 0
  pub number : pos 0 <ℤ v at

-- of the first n parts the first that is not 0 is below 0
abbrev pub IsBelow : ℕ → (ℕ → ℤ) → Type 0
IsBelow n v = IsAbove n (λ p. neg_ℤ (v p))

-- the first n parts are 0
abbrev pub IsZero : ℕ → (ℕ → ℤ) → Type 0
IsZero n v = (p : ℕ) → p < n → v p ≡ pos 0

-- v / d is below w / e, where d and e are above 0
abbrev pub IsLess : ℕ → ℤ → (ℕ → ℤ) → ℤ → (ℕ → ℤ) → Type 0
IsLess n d v e w = IsAbove n (λ p. (d *ℤ w p) -ℤ (e *ℤ v p))
