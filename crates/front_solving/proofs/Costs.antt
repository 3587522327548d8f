-- The cost of a point of the case of a deck.
use Rattle.std.proofs.Common.{ℕ, ◌<◌, ◌≡◌, ◌∙◌, sym, ap, arith, ℤ, pos, ◌*ℤ◌, ◌≤ℤ◌}
use Rattle.std.proofs.lemmas.Int.{ints}
use Rattle.lp_base.proofs.Ring.{mul_cancel_right}
use Rattle.lp_nums.specs.Fractions.{Fraction, SameValue}
use Rattle.deck_case.proofs.RationalLaws.{value_iff}
use Rattle.kkt_front.proofs.EntrySums.{IsSum}

-- the cost is w / d, where the objective is not scaled
pub cost_is : (w cost scale : ℤ) (d : ℕ) (f : Fraction) → 0 < d → IsSum w d f → scale ≡ pos 1 → SameValue f (record { num = cost; den = scale *ℤ pos d }) → cost ≡ w
cost_is w cost scale d f some sum one same =
    let low : pos 1 ≤ℤ pos d = omega (arith, ints, some) in
    let products = (value_iff w (pos d) cost (scale *ℤ pos d) f sum.positive low sum.over).1 same in
    let once : pos d ≡ scale *ℤ pos d = sym (ap (λ s. s *ℤ pos d) one ∙ (let z : pos 1 *ℤ pos d ≡ pos d = omega (arith, ints) in z)) in
    sym (mul_cancel_right d w cost some (ap (λ z. w *ℤ z) once ∙ products))
