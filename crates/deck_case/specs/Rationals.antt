-- Under `yes`: arithmetic of fractions whose denominators are positive, in lowest terms or not.
use Rattle.std.specs.Prelude.{pos, ◌+ℤ◌, ◌*ℤ◌, ◌≤ℤ◌, ◌<ℤ◌, neg_ℤ, List, [], ◌∷◌, unsigned_abs}
use Rattle.lp_nums.specs.Fractions.{Fraction}

abbrev pub plus : Fraction → Fraction → Fraction
plus f g = record { num = (f.num *ℤ g.den) +ℤ (g.num *ℤ f.den); den = f.den *ℤ g.den }

abbrev pub negative : Fraction → Fraction
negative f = record { num = neg_ℤ f.num; den = f.den }

abbrev pub minus : Fraction → Fraction → Fraction
minus f g = plus f (negative g)

abbrev pub product : Fraction → Fraction → Fraction
product f g = record { num = f.num *ℤ g.num; den = f.den *ℤ g.den }

-- the absolute value
abbrev pub size : Fraction → Fraction
size f = record { num = pos (unsigned_abs f.num); den = f.den }

abbrev pub total : List Fraction → Fraction
total [] = record { num = pos 0; den = pos 1 }
total (f ∷ fs) = plus f (total fs)

-- f is at most g, where both denominators are positive
abbrev pub IsAtMost : Fraction → Fraction → Type 0
IsAtMost f g = (f.num *ℤ g.den) ≤ℤ (g.num *ℤ f.den)

-- f is below g, where both denominators are positive
abbrev pub IsBelow : Fraction → Fraction → Type 0
IsBelow f g = (f.num *ℤ g.den) <ℤ (g.num *ℤ f.den)
