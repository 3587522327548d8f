-- What the problems ask of a point x / d.
use Rattle.std.specs.Prelude.{◌≡◌, ◌<◌, ◌+◌, ◌⊎◌, ℕ, ℤ, pos, ◌+ℤ◌, ◌*ℤ◌, ◌≤ℤ◌, length}
use Rattle.std.specs.List.{range_with_len}
use Rattle.lp_base.specs.Sums.{sum_over}
use Rattle.lpcc_case.specs.Points.{Point, left_side}
use Rattle.front_text.specs.declared.problem.Bilevel.{Bilevel}
use Rattle.front_text.specs.declared.problem.Lcp.{Lcp}
use Rattle.front_text.specs.declared.problem.Line.{Line}
use Rattle.front_text.specs.Problems.{coefficient_at}
use Rattle.kkt_front.specs.DeckTexts.{line_at, number_at, row_of}

-- ---- a complementarity problem

-- number i of M z + q, times d
abbrev pub slack : {n : ℕ} → Lcp → Point n → ℕ → ℤ
slack p z i = left_side (row_of p i) z.x +ℤ (number_at p.q i *ℤ pos z.d)

-- z and M z + q are at least 0, and in each place their product is 0
pub record IsSolution {n : ℕ} (p : Lcp) (z : Point n) : Type 0 where
  pub nonnegative : (i : ℕ) → i < p.size → pos 0 ≤ℤ number_at z.x i
  pub met : (i : ℕ) → i < p.size → pos 0 ≤ℤ slack p z i
  pub complementary : (i : ℕ) → i < p.size → (number_at z.x i *ℤ slack p z i) ≡ pos 0

-- ---- a bilevel problem

-- the sum of the line's terms is at least its right-hand side
abbrev pub MeetsLine : {n : ℕ} → Point n → Line → Type 0
MeetsLine p line = (line.rhs *ℤ pos p.d) ≤ℤ left_side line.terms p.x

abbrev pub IsTightLine : {n : ℕ} → Point n → Line → Type 0
IsTightLine p line = left_side line.terms p.x ≡ (line.rhs *ℤ pos p.d)

-- behind the variables stands a multiplier for each line of `low`
abbrev pub multiplier_at : {n : ℕ} → Bilevel → Point n → ℕ → ℤ
multiplier_at b p i = number_at p.x (b.nx + b.ny + i)

-- the sum over the lines of `low` of multiplier times coefficient of y variable k
abbrev pub weighed : {n : ℕ} → Bilevel → Point n → ℕ → ℤ
weighed b p k = sum_over (λ i. coefficient_at (line_at b.low i).terms (b.nx + k) *ℤ multiplier_at b p i) (range_with_len 0 (length b.low))

-- multipliers of y: not negative, they make up `follow`, and each is 0 or its line is tight
pub record AreMultipliers {n : ℕ} (b : Bilevel) (p : Point n) : Type 0 where
  pub nonnegative : (i : ℕ) → i < length b.low → pos 0 ≤ℤ multiplier_at b p i
  pub sums : (k : ℕ) → k < b.ny → weighed b p k ≡ (number_at b.follow k *ℤ pos p.d)
  pub tight : (i : ℕ) → i < length b.low → IsTightLine p (line_at b.low i) ⊎ (multiplier_at b p i ≡ pos 0)

-- all lines are met, and what stands behind the variables are multipliers of y
pub record IsWithMultipliers {n : ℕ} (b : Bilevel) (p : Point n) : Type 0 where
  pub up : (i : ℕ) → i < length b.up → MeetsLine p (line_at b.up i)
  pub low : (i : ℕ) → i < length b.low → MeetsLine p (line_at b.low i)
  pub multipliers : AreMultipliers b p

-- what y costs in `follow`, times d
abbrev pub followed : {n : ℕ} → Bilevel → Point n → ℤ
followed b p = sum_over (λ k. number_at b.follow k *ℤ number_at p.x (b.nx + k)) (range_with_len 0 b.ny)

-- the same x
abbrev pub HasSameX : {m n : ℕ} → Bilevel → Point m → Point n → Type 0
HasSameX b p q = (j : ℕ) → j < b.nx → (number_at p.x j *ℤ pos q.d) ≡ (number_at q.x j *ℤ pos p.d)

-- y is least in `follow` among those that meet the lines of `low` for this x
abbrev pub IsLeastFollower : {n : ℕ} → Bilevel → Point n → Type 0
IsLeastFollower b p =
    (q : Point (b.nx + b.ny)) → HasSameX b p q → ((i : ℕ) → i < length b.low → MeetsLine q (line_at b.low i)) → (followed b p *ℤ pos q.d) ≤ℤ (followed b q *ℤ pos p.d)
