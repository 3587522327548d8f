-- Points and directions as the code keeps them, in numbers of 64 bits.
use Rattle.std.specs.Prelude.{◌≡◌, ℕ, ℤ, pos, ◌≤ℤ◌, ◌*ℤ◌, ◌<ℤ◌, List, All, length}
use Rattle.lp_base.specs.Numbers.{IsNarrow}
use Rattle.lp_base.specs.Sums.{dot}
use Rattle.lpcc_case.specs.Instance.{Instance, constraint_at}
use Rattle.lpcc_case.specs.Points as points
use Rattle.lpcc_case.specs.declared.point.Point.{Point}

-- a narrow number for each column
pub record AreNumbersOf (a : Instance) (numbers : List ℤ) : Type 0 where
  pub size : length numbers ≡ a.columns
  pub narrow : All IsNarrow numbers

-- at these numbers the left side of the constraint of this number is d times its right side
abbrev pub HoldsWithEquality : Instance → List ℤ → ℤ → ℕ → Type 0
HoldsWithEquality a numbers d k = points.left_side (constraint_at a k).terms numbers ≡ ((constraint_at a k).rhs *ℤ d)

-- narrow numbers for the columns of the instance, and a denominator of at least 1
pub record IsPointFor (a : Instance) (q : Point) : Type 0 where
  pub numbers : AreNumbersOf a q.x
  pub narrow : IsNarrow q.d
  pub positive : pos 1 ≤ℤ q.d

-- besides, z is the sum of the costs times the numbers
pub record IsPointOf (a : Instance) (q : Point) : Type 0 where
  pub fits : IsPointFor a q
  pub cost : q.z ≡ dot a.cost q.x

-- p is the point of these numbers
abbrev pub Means : {n : ℕ} → Point → points.Point n → Type 0
Means q p = (p.x ≡ q.x) × (pos p.d ≡ q.d)

-- z / d of one is below z / d of the other
abbrev pub IsBelow : Point → Point → Type 0
IsBelow q r = (q.z *ℤ r.d) <ℤ (r.z *ℤ q.d)
