-- The sense of an objective goes through products and equations.
use Rattle.std.proofs.Common.{◌≡◌, ◌∙◌, refl, sym, ap, arith, ℤ, pos, ◌+ℤ◌, ◌*ℤ◌}
use Rattle.std.specs.Prelude.{neg_ℤ}
use Rattle.std.proofs.lemmas.Int.{ints}
use Rattle.std.proofs.Math.IntN.{zero-*ℤ}
use Rattle.lp_base.proofs.Ring.{mul_add_right}
use Rattle.sense.specs.declared.objective.Sense.{Sense}
use Rattle.sense.specs.declared.objective.Sense.TheVariants.{Min, Max}
use Rattle.sense.specs.Senses.{signed}

neg_times : (a b : ℤ) → neg_ℤ a *ℤ b ≡ neg_ℤ (a *ℤ b)
neg_times a b =
    let none : a +ℤ neg_ℤ a ≡ pos 0 = omega (arith, ints) in
    let parts : (a *ℤ b) +ℤ (neg_ℤ a *ℤ b) ≡ pos 0 = sym (mul_add_right b a (neg_ℤ a)) ∙ ap (λ z. z *ℤ b) none ∙ zero-*ℤ b in
    omega (arith, ints, parts)

pub signed_times : (s : Sense) (a b : ℤ) → signed s a *ℤ b ≡ signed s (a *ℤ b)
signed_times Min a b = refl
signed_times Max a b = neg_times a b

-- equal products stay equal
pub equal_signed : (s : Sense) (u v k l : ℤ) → (u *ℤ l) ≡ (v *ℤ k) → (signed s u *ℤ l) ≡ (signed s v *ℤ k)
equal_signed s u v k l e = signed_times s u l ∙ ap (signed s) e ∙ sym (signed_times s v k)
