-- The order of points by their cost.
use Rattle.std.proofs.Common.{ℕ, ◌<◌, arith, ℤ, pos, ◌*ℤ◌, ◌<ℤ◌}
use Rattle.std.proofs.lemmas.Int.{ints}
use Rattle.lp_base.proofs.Ring.{mul_swap, mul_lt_right, lt_of_mul_right}
use Rattle.lpcc_case.specs.Instance.{Instance}
use Rattle.lpcc_case.specs.Points.{Point, IsLower, cost_at}

pub lower-self : (a : Instance) (p : Point a.columns) → IsLower a p p → ⊥
lower-self a p h = omega (arith, ints)

-- fractions by cross multiplication: u / k < v / l and v / l < w / m give u / k < w / m
pub less-trans : (u v w : ℤ) (k l m : ℕ) → 0 < k → 0 < m → (u *ℤ pos l) <ℤ (v *ℤ pos k) → (v *ℤ pos m) <ℤ (w *ℤ pos l) → (u *ℤ pos m) <ℤ (w *ℤ pos k)
less-trans u v w k l m hk hm h1 h2 =
    let left = mul_lt_right m (u *ℤ pos l) (v *ℤ pos k) hm h1 in
    let right = mul_lt_right k (v *ℤ pos m) (w *ℤ pos l) hk h2 in
    lt_of_mul_right l (u *ℤ pos m) (w *ℤ pos k)
    (omega (arith, ints, left, right, mul_swap u (pos l) (pos m), mul_swap v (pos k) (pos m), mul_swap w (pos l) (pos k)))

pub lower-trans : (a : Instance) (p q r : Point a.columns) → IsLower a p q → IsLower a q r → IsLower a p r
lower-trans a p q r h k = less-trans (cost_at a p) (cost_at a q) (cost_at a r) p.d q.d r.d p.positive r.positive h k
