-- The order of points is strict.
use Rattle.std.proofs.Common.{ℕ, ℤ, pos, negsuc, ◌≡◌, ◌<◌, ◌*ℤ◌, ◌<ℤ◌, ◌&&◌, arith, Bool, true, false, refl, sym, int_lt, int_le}
use Rattle.std.proofs.lemmas.Int.{ints}
use Rattle.std.proofs.lemmas.Bool.{false≢true, and_from}
use Rattle.lp_base.proofs.Ring.{mul_swap, mul_lt_right, lt_of_mul_right}
use Rattle.lpcc_case.specs.declared.point.Point.{Point}
use Rattle.best.specs.PointOrder.{is_lower_point}

and_false : (b c : Bool) → c ≡ false → (b && c) ≡ false
and_false true c e = e
and_false false c e = refl

both : (b c : Bool) → (b && c) ≡ true → (b ≡ true) × (c ≡ true)
both true c e = (refl, e)
both false c e = absurd (false≢true e)

not_below_itself : (z : ℤ) → int_lt z z ≡ false
not_below_itself z = grind (arith, ints)

below : (a b : ℤ) → int_lt a b ≡ true → a <ℤ b
below a b h = grind (arith, ints)

is_below : (a b : ℤ) → a <ℤ b → int_lt a b ≡ true
is_below a b h = grind (arith, ints)

positive : (z : ℤ) → int_le (pos 1) z ≡ true → (n : ℕ) × (0 < n) × (z ≡ pos n)
positive (pos n) h = (n, grind (arith, ints), refl)
positive (negsuc n) h = absurd (false≢true h)

-- u / k < v / l and v / l < w / m give u / k < w / m
less_trans : (u v w : ℤ) (k l m : ℕ) → 0 < k → 0 < m → (u *ℤ pos l) <ℤ (v *ℤ pos k) → (v *ℤ pos m) <ℤ (w *ℤ pos l) → (u *ℤ pos m) <ℤ (w *ℤ pos k)
less_trans u v w k l m hk hm h1 h2 =
    let left = mul_lt_right m (u *ℤ pos l) (v *ℤ pos k) hm h1 in
    let right = mul_lt_right k (v *ℤ pos m) (w *ℤ pos l) hk h2 in
    lt_of_mul_right l (u *ℤ pos m) (w *ℤ pos k)
    (omega (arith, ints, left, right, mul_swap u (pos l) (pos m), mul_swap v (pos k) (pos m), mul_swap w (pos l) (pos k)))

tests_trans : (u v w a b c : ℤ) → int_le (pos 1) a ≡ true → int_le (pos 1) b ≡ true → int_le (pos 1) c ≡ true → int_lt (u *ℤ b) (v *ℤ a) ≡ true → int_lt (v *ℤ c) (w *ℤ b) ≡ true → int_lt (u *ℤ c) (w *ℤ a) ≡ true
tests_trans u v w a b c ha hb hc h k =
    let p = positive a ha in
    let q = positive b hb in
    let r = positive c hc in
    let h' : (u *ℤ pos q.0) <ℤ (v *ℤ pos p.0) = rw (sym q.2, sym p.2) (below (u *ℤ b) (v *ℤ a) h) in
    let k' : (v *ℤ pos r.0) <ℤ (w *ℤ pos q.0) = rw (sym r.2, sym q.2) (below (v *ℤ c) (w *ℤ b) k) in
    is_below (u *ℤ c) (w *ℤ a) (rw (r.2, p.2) (less_trans u v w p.0 q.0 r.0 p.1 r.1 h' k'))

pub lower_self : (p : Point) → is_lower_point p p ≡ false
lower_self p = and_false (int_le (pos 1) p.d && int_le (pos 1) p.d) (int_lt (p.z *ℤ p.d) (p.z *ℤ p.d)) (not_below_itself (p.z *ℤ p.d))

pub lower_trans : (p q r : Point) → is_lower_point p q ≡ true → is_lower_point q r ≡ true → is_lower_point p r ≡ true
lower_trans p q r h k =
    let first = both (int_le (pos 1) p.d && int_le (pos 1) q.d) (int_lt (p.z *ℤ q.d) (q.z *ℤ p.d)) h in
    let second = both (int_le (pos 1) q.d && int_le (pos 1) r.d) (int_lt (q.z *ℤ r.d) (r.z *ℤ q.d)) k in
    let left = both (int_le (pos 1) p.d) (int_le (pos 1) q.d) first.0 in
    let right = both (int_le (pos 1) q.d) (int_le (pos 1) r.d) second.0 in
    and_from (int_le (pos 1) p.d && int_le (pos 1) r.d) (int_lt (p.z *ℤ r.d) (r.z *ℤ p.d)) (and_from (int_le (pos 1) p.d) (int_le (pos 1) r.d) left.0 right.1)
    (tests_trans p.z q.z r.z p.d q.d r.d left.0 left.1 right.1 first.1 second.1)
