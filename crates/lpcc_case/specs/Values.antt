-- The value of a point, with scale, offset and sense.
use Rattle.std.specs.Prelude.{◌≡◌, ℕ, ℤ, ◌+ℤ◌, ◌*ℤ◌, List}
use Rattle.lp_nums.specs.Fractions.{Fraction, IsReduced, SameValue}
use Rattle.lp_nums.specs.Texts.{fraction_text}
use Rattle.sense.specs.Senses.{signed}
use Rattle.lpcc_case.specs.Instance.{Instance}

-- (z + offset d) / (scale d), where z / d is the cost of a point; its negative where the objective is to be greatest
abbrev pub value_at : Instance → ℤ → ℤ → Fraction
value_at a z d = record { num = signed a.sense (z +ℤ (a.offset *ℤ d)); den = a.scale *ℤ d }

-- that value in lowest terms
pub record IsValue (a : Instance) (z d : ℤ) (value : Fraction) : Type 0 where
  pub lowest : IsReduced value
  pub same : SameValue value (value_at a z d)

-- the text of that value in lowest terms
abbrev pub IsValueText : Instance → ℤ → ℤ → List ℕ → Type 0
IsValueText a z d text = (value : Fraction) × IsValue a z d value × (text ≡ fraction_text value)
