-- What the numbers of a point mean.
use Rattle.std.proofs.Common.{ℕ, ◌<◌, ◌≡◌, refl, arith, ℤ, pos, negsuc, ◌≤ℤ◌}
use Rattle.std.proofs.lemmas.Int.{ints}
use Rattle.lpcc_case.specs.declared.point.Point.{Point}
use Rattle.lpcc_case.specs.Instance.{Instance}
use Rattle.lpcc_case.specs.NarrowPoints.{IsPointFor, Means}
use Rattle.lpcc_case.specs.Points as points

denominator : (d : ℤ) → pos 1 ≤ℤ d → (n : ℕ) × (0 < n) × (pos n ≡ d)
denominator (pos n) h = (n, omega (arith, ints, h), refl)
denominator (negsuc n) h = absurd (omega (arith, ints, h))

pub means_one : (a : Instance) (q : Point) → IsPointFor a q → (p : points.Point a.columns) × Means q p
means_one a q h =
    let d = denominator q.d h.positive in
    (record { x = q.x; d = d.0; size = h.numbers.size; positive = d.1 }, (refl, d.2))
