-- Under `yes`: fractions as pairs of whole numbers.
use Rattle.std.specs.Prelude.{◌≡◌, ℤ, pos, ◌*ℤ◌, ◌≤ℤ◌, unsigned_abs}
use Rattle.std.specs.Int.{IsGcd}
use Rattle.std.specs.declared.cmp.Ordering.{Ordering}
use Rattle.std.specs.Ordering.{int_cmp}

pub record Fraction : Type 0 where
  pub num : ℤ
  pub den : ℤ

-- the denominator is positive, and 1 is the greatest number that divides both
pub record IsReduced (f : Fraction) : Type 0 where
  pub positive : pos 1 ≤ℤ f.den
  pub lowest : IsGcd (unsigned_abs f.num) (unsigned_abs f.den) 1

-- two fractions have one value, by cross multiplication
abbrev pub SameValue : Fraction → Fraction → Type 0
SameValue f g = f.num *ℤ g.den ≡ g.num *ℤ f.den

-- the order of the quotients v / e and z / d, whose divisors e and d are positive
abbrev pub quotient_cmp : ℤ → ℤ → ℤ → ℤ → Ordering
quotient_cmp v e z d = int_cmp (v *ℤ d) (z *ℤ e)
