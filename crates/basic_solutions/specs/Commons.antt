-- Common multiples and common divisors of numbers.
use Rattle.std.specs.Prelude.{◌<◌, ◌≤◌, ◌+◌, ◌*◌, ◌^◌, ◌⊎◌, ℕ}
use Prim.Native.Nat.{◌∣◌}
use Rattle.lp_base.specs.Numbers.{narrow_bound}

-- m is the least common multiple of a and b
abbrev pub IsLcm : ℕ → ℕ → ℕ → Type 0
IsLcm a b m = (a ∣ m) × (b ∣ m) × ((n : ℕ) → a ∣ n → b ∣ n → m ∣ n)

-- l is the least common multiple of the first n numbers
pub record IsLeastCommon (n : ℕ) (q : ℕ → ℕ) (l : ℕ) : Type 0 where
  pub positive : 0 < l
  pub multiple : (c : ℕ) → c < n → q c ∣ l
  pub least : (m : ℕ) → ((c : ℕ) → c < n → q c ∣ m) → l ∣ m

-- g is the greatest common divisor of the first n numbers
pub record IsGreatestCommon (n : ℕ) (p : ℕ → ℕ) (g : ℕ) : Type 0 where
  pub divides : (c : ℕ) → c < n → g ∣ p c
  pub greatest : (d : ℕ) → ((c : ℕ) → c < n → d ∣ p c) → d ∣ g

-- the least common multiple of the first k + 1 of the n numbers is past 2^126, that of the first k is not
pub record IsTooLarge (n : ℕ) (q : ℕ → ℕ) : Type 0 where
  pub k : ℕ
  pub within : k < n
  pub before : ℕ
  pub least_before : IsLeastCommon k q before
  pub small : before < 2 ^ 126
  pub l : ℕ
  pub least : IsLeastCommon (k + 1) q l
  pub large : 2 ^ 126 ≤ l

-- each common denominator d of the fractions p / q, or one of the numbers over it, is not narrow
abbrev pub IsWideOver : ℕ → (ℕ → ℕ) → (ℕ → ℕ) → Type 0
IsWideOver n p q = (d : ℕ) → 0 < d → ((c : ℕ) → c < n → q c ∣ p c * d) → (narrow_bound ≤ d) ⊎ ((c : ℕ) × (c < n) × (narrow_bound * q c ≤ p c * d))

-- where a / b times the fractions p / q are whole numbers, one of them is not narrow
abbrev pub IsWideAlong : ℕ → (ℕ → ℕ) → (ℕ → ℕ) → Type 0
IsWideAlong n p q = (a b : ℕ) → 0 < a → 0 < b → ((c : ℕ) → c < n → b * q c ∣ p c * a) → (c : ℕ) × (c < n) × (narrow_bound * (b * q c) ≤ p c * a)
