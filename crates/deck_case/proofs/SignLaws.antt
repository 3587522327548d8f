-- Sums of an objective whose signs are changed, or not.
use Rattle.std.proofs.Common.{◌≡◌, refl, sym, ap, ◌∙◌, arith, ℤ, pos, ◌+ℤ◌, ◌*ℤ◌, List, [], ◌∷◌, map}
use Rattle.std.proofs.lemmas.Int.{ints}
use Rattle.lp_base.specs.Sums.{dot}
use Rattle.sense.specs.declared.objective.Sense.{Sense}
use Rattle.sense.specs.declared.objective.Sense.TheVariants.{Min, Max}
use Rattle.sense.specs.Senses.{signed}
use Rattle.sense.proofs.SenseLaws.{signed_times}
use Rattle.lpcc_case.specs.Cases.{FitsCase}

pub signed_twice : (s : Sense) (z : ℤ) → signed s (signed s z) ≡ z
signed_twice Min z = refl
signed_twice Max z = omega (arith, ints)

pub signed_sum : (s : Sense) (a b : ℤ) → signed s a +ℤ signed s b ≡ signed s (a +ℤ b)
signed_sum Min a b = refl
signed_sum Max a b = omega (arith, ints)

pub signed_fits : (s : Sense) (z : ℤ) → FitsCase z → FitsCase (signed s z)
signed_fits Min z h = h
signed_fits Max z h = omega (arith, ints, h)

signed_none : (s : Sense) → pos 0 ≡ signed s (pos 0)
signed_none Min = refl
signed_none Max = refl

pub dot_signed : (s : Sense) (costs x : List ℤ) → dot (map (signed s) costs) x ≡ signed s (dot costs x)
dot_signed s [] x = signed_none s
dot_signed s (c ∷ costs) [] = signed_none s
dot_signed s (c ∷ costs) (v ∷ x) = (λ i. signed_times s c v i +ℤ dot_signed s costs x i) ∙ signed_sum s (c *ℤ v) (dot costs x)

-- a cost and a constant, of which both are signed, with a denominator
pub lifted_plain : (s : Sense) (c o d cost offset : ℤ) → cost ≡ signed s c → offset ≡ signed s o → signed s (cost +ℤ (offset *ℤ d)) ≡ c +ℤ (o *ℤ d)
lifted_plain s c o d cost offset ec eo =
    (λ i. signed s (ec i +ℤ (eo i *ℤ d))) ∙ ap (λ (z : ℤ). signed s (signed s c +ℤ z)) (signed_times s o d) ∙ ap (signed s) (signed_sum s c (o *ℤ d)) ∙ signed_twice s (c +ℤ (o *ℤ d))
