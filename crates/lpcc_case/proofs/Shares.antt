-- What each term gives to the coefficient of a column.
use Rattle.std.proofs.Common.{ℕ, ◌<◌, ◌≡◌, arith, ℤ, pos, cond, eqb}

-- what a term gives to column j
abbrev pub share : ℕ × ℤ → ℕ → ℤ
share t j = cond (eqb t.0 j) t.1 (pos 0)

pub share_at : (k : ℕ) (v : ℤ) → cond (eqb k k) v (pos 0) ≡ v
share_at k v = grind arith

pub share_after : (k j : ℕ) (v : ℤ) → j < k → cond (eqb k j) v (pos 0) ≡ pos 0
share_after k j v h = grind arith

-- a term of another column
pub share_other : (k j : ℕ) (v : ℤ) → (j ≡ k → ⊥) → cond (eqb k j) v (pos 0) ≡ pos 0
share_other k j v h = grind arith

pub share_before : (k j : ℕ) (v : ℤ) → k < j → cond (eqb k j) v (pos 0) ≡ pos 0
share_before k j v h = grind arith
