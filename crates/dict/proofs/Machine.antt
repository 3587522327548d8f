-- What the code's operations on 64 and 128 bits give, where they fit.
use Rattle.std.proofs.Common.{ℕ, suc, ◌+◌, ◌-◌, ◌*◌, ◌^◌, ◌≤◌, ◌<◌, ◌≡◌, ◌∙◌, refl, sym, ap, arith, ℤ, pos, negsuc, ◌+ℤ◌, ◌-ℤ◌, ◌*ℤ◌, ◌<ℤ◌, ◌≤ℤ◌, to_z, of_z}
use Rattle.std.proofs.lemmas.Int.{ints, to_z-of_z, fits_signed_from_abs}
use Rattle.std.proofs.Math.IntN.{zero-*ℤ}
use Rattle.std.specs.Prelude.{unsigned_abs}
use mir.Syntax.{w64, w128}
use Rattle.lp_base.proofs.Ring.{abs_add, mul_add_right}
use Rattle.lp_base.proofs.Machine.{again}

-- a narrow number that is read again
pub read_again : (k : ℤ) → unsigned_abs k < 2 ^ 63 → to_z w64 (of_z w64 k) ≡ k
read_again k h = to_z-of_z w64 k (fits_signed_from_abs w64 k h)

-- the code's sum of the products u and v
pub mixed_is : (p x a y u v : ℤ) → unsigned_abs p < 2 ^ 63 → unsigned_abs x < 2 ^ 63 → unsigned_abs a < 2 ^ 63 → unsigned_abs y < 2 ^ 63 → u ≡ to_z w64 (of_z w64 p) *ℤ to_z w64 (of_z w64 x) → v ≡ to_z w64 (of_z w64 a) *ℤ to_z w64 (of_z w64 y) → unsigned_abs u ≤ 2 ^ 126 - 2 ^ 64 + 1 → unsigned_abs v ≤ 2 ^ 126 - 2 ^ 64 + 1 → to_z w128 (of_z w128 (to_z w128 (of_z w128 u) +ℤ to_z w128 (of_z w128 v))) ≡ (p *ℤ x) +ℤ (a *ℤ y)
mixed_is p x a y u v fp fx fa fy eu ev hu hv =
    let au = again u (omega arith) in
    let av = again v (omega arith) in
    let t = again (u +ℤ v) (omega (arith, abs_add u v)) in
    rw (au, av, t, eu, ev, read_again p fp, read_again x fx, read_again a fa, read_again y fy) refl

-- a number below 2^127 that is read again, and was made of numbers that were
pub joined : (p x a y m : ℤ) → unsigned_abs p < 2 ^ 63 → unsigned_abs x < 2 ^ 63 → unsigned_abs a < 2 ^ 63 → unsigned_abs y < 2 ^ 63 → m ≡ (to_z w64 (of_z w64 p) *ℤ to_z w64 (of_z w64 x)) +ℤ (to_z w64 (of_z w64 a) *ℤ to_z w64 (of_z w64 y)) → unsigned_abs m < 2 ^ 127 → to_z w128 (of_z w128 m) ≡ (p *ℤ x) +ℤ (a *ℤ y)
joined p x a y m fp fx fa fy e h = again m h ∙ e ∙ rw (read_again p fp, read_again x fx, read_again a fa, read_again y fy) refl

-- a quotient with the sign of the number that was divided
neg_mul : (q g n : ℕ) → q * g ≡ suc n → (pos 0 -ℤ pos q) *ℤ pos g ≡ negsuc n
neg_mul q g n e =
    let none : (pos 0 -ℤ pos q) +ℤ pos q ≡ pos 0 = omega (arith, ints) in
    let s : ((pos 0 -ℤ pos q) +ℤ pos q) *ℤ pos g ≡ pos 0 = rw none (zero-*ℤ (pos g)) in
    let p : pos q *ℤ pos g ≡ pos (suc n) = ap pos e in
    omega (arith, ints, sym (mul_add_right (pos g) (pos 0 -ℤ pos q) (pos q)) ∙ s, p)

pub quotient_below : (z : ℤ) (q g : ℕ) → q * g ≡ unsigned_abs z → z <ℤ pos 0 → q < 2 ^ 63 → to_z w64 (of_z w64 (pos 0 -ℤ to_z w64 q)) *ℤ pos g ≡ z
quotient_below (pos n) q g e below h = absurd (omega (arith, ints))
quotient_below (negsuc n) q g e below h =
    let a : to_z w64 q ≡ pos q = omega (arith, ints) in
    let b : to_z w64 (of_z w64 (pos 0 -ℤ pos q)) ≡ pos 0 -ℤ pos q = read_again (pos 0 -ℤ pos q) (omega (arith, ints, h)) in
    rw (a, b) (neg_mul q g n e)

pub quotient_above : (z : ℤ) (q g : ℕ) → q * g ≡ unsigned_abs z → pos 0 ≤ℤ z → q < 2 ^ 63 → to_z w64 q *ℤ pos g ≡ z
quotient_above (negsuc n) q g e above h = absurd (omega (arith, ints))
quotient_above (pos n) q g e above h =
    let a : to_z w64 q ≡ pos q = omega (arith, ints) in
    rw a (ap pos e)

-- a positive number is that of its size
pub is_pos : (g : ℤ) → pos 0 <ℤ g → g ≡ pos (unsigned_abs g)
is_pos (pos n) h = refl
is_pos (negsuc n) h = absurd (omega (arith, ints))
