-- The order of quotients by their whole parts, and by what those leave.
use Rattle.std.proofs.Common.{ℕ, ◌+◌, ◌-◌, ◌*◌, ◌%◌, ◌<◌, ◌≤◌, ◌≡◌, refl, sym, ap, subst, ◌∙◌, arith, ℤ, pos, negsuc, ◌+ℤ◌, ◌*ℤ◌, ◌≤ℤ◌, ◌<ℤ◌}
use Rattle.std.specs.Int.{int_div_euclid, int_rem_euclid}
use Rattle.std.specs.declared.cmp.Ordering.{Ordering}
use Rattle.std.specs.declared.cmp.Ordering.TheVariants.{Less, Equal, Greater}
use Rattle.std.specs.Ordering.{int_cmp, MatchOrdering}
use Rattle.std.specs.Cmp.{int_cmp_is}
use Rattle.std.proofs.lemmas.Cmp.{int_ranked, int_cmp_total, tied_itself}
use Rattle.std.proofs.Common.{to_z, of_z, FitsSigned}
use mir.Syntax.{w64, w128}
use Rattle.std.proofs.lemmas.Int.{ints, to_z-of_z}
use Rattle.std.proofs.lemmas.Nat.{div-add-mod', mod_below}
use Rattle.std.proofs.Math.Nat.{mul-le-mul_right}
use Rattle.lp_base.proofs.Ring.{mul_add_right, mul_assoc, mul_le_right}
use Rattle.lp_nums.specs.Fractions.{quotient_cmp}

-- a number is its quotient, rounded down, times the divisor, and the rest
floor_rest : (v : ℤ) (e : ℕ) → 0 < e → int_div_euclid v (pos e) *ℤ pos e +ℤ int_rem_euclid v (pos e) ≡ v
floor_rest (pos a) e some = omega (arith, ints, div-add-mod' a e)
floor_rest (negsuc a) e some = omega (arith, ints, div-add-mod' a e, mod_below a e some)

-- the rest is a natural number below the divisor
rest_below : (v : ℤ) (e : ℕ) → 0 < e → (r : ℕ) × (r < e) × (int_rem_euclid v (pos e) ≡ pos r)
rest_below (pos a) e some = (a % e, mod_below a e some, refl)
rest_below (negsuc a) e some = (e - 1 - a % e, omega arith, refl)

-- a product of a whole part and a rest
opened : (q : ℤ) (r e d : ℕ) → (q *ℤ pos e +ℤ pos r) *ℤ pos d ≡ (q *ℤ pos (e * d)) +ℤ pos (r * d)
opened q r e d = mul_add_right (pos d) (q *ℤ pos e) (pos r) ∙ ap (λ x. x +ℤ pos (r * d)) (mul_assoc q (pos e) (pos d))

-- the lower whole part decides
lower_whole : (q p : ℤ) (r s e d : ℕ) → r < e → 0 < d → q <ℤ p → ((q *ℤ pos e +ℤ pos r) *ℤ pos d) <ℤ ((p *ℤ pos d +ℤ pos s) *ℤ pos e)
lower_whole q p r s e d small some l =
    let m = e * d in
    let here : r * d + d ≤ e * d = omega (arith, mul-le-mul_right d small) in
    let next : (q +ℤ pos 1) ≤ℤ p = omega (arith, ints) in
    let step : ((q +ℤ pos 1) *ℤ pos (e * d)) ≤ℤ (p *ℤ pos (e * d)) = mul_le_right (e * d) (q +ℤ pos 1) p next in
    let spread : (q +ℤ pos 1) *ℤ pos (e * d) ≡ (q *ℤ pos (e * d)) +ℤ pos (e * d) = omega (arith, ints, mul_add_right (pos (e * d)) q (pos 1)) in
    let turned : p *ℤ pos (d * e) ≡ p *ℤ pos (e * d) = ap (λ n. p *ℤ pos n) (omega arith) in
    omega (arith, ints, opened q r e d, opened p s d e, here, step, spread, turned)

-- the answer of a comparison, where what it says of x and y holds of u and w
answer_of : (o : Ordering) (x y u w : ℤ) → o ≡ int_cmp x y → (x <ℤ y → u <ℤ w) → (x ≡ y → u ≡ w) → (y <ℤ x → w <ℤ u) → o ≡ int_cmp u w
answer_of o x y u w e f g h = int_cmp_is u w o (matched o (int_ranked x y o e)) where
  matched : (k : Ordering) → MatchOrdering k (x <ℤ y) (x ≡ y) (y <ℤ x) → MatchOrdering k (u <ℤ w) (u ≡ w) (w <ℤ u)
  matched Less m = f m
  matched Equal m = g m
  matched Greater m = h m

-- equal whole parts leave the order to the rests
same_whole : (o : Ordering) (q : ℤ) (r s e d : ℕ) → o ≡ int_cmp (pos r *ℤ pos d) (pos s *ℤ pos e) → o ≡ int_cmp ((q *ℤ pos e +ℤ pos r) *ℤ pos d) ((q *ℤ pos d +ℤ pos s) *ℤ pos e)
same_whole o q r s e d h =
    let turned : q *ℤ pos (d * e) ≡ q *ℤ pos (e * d) = ap (λ n. q *ℤ pos n) (omega arith) in
    let first = opened q r e d in
    let second = opened q s d e in
    answer_of o (pos (r * d)) (pos (s * e)) ((q *ℤ pos e +ℤ pos r) *ℤ pos d) ((q *ℤ pos d +ℤ pos s) *ℤ pos e) h
    (λ l. omega (arith, ints, l, first, second, turned))
    (λ k. omega (arith, ints, k, first, second, turned))
    (λ l. omega (arith, ints, l, first, second, turned))

-- ---- the two returns of the code

rests_of : (o : Ordering) (v z : ℤ) (e d : ℕ) → 0 < e → 0 < d → int_div_euclid v (pos e) ≡ int_div_euclid z (pos d) → o ≡ int_cmp (int_rem_euclid v (pos e) *ℤ pos d) (int_rem_euclid z (pos d) *ℤ pos e) → o ≡ int_cmp (v *ℤ pos d) (z *ℤ pos e)
rests_of o v z e d some other same h =
    let q = int_div_euclid v (pos e) in
    let r = rest_below v e some in
    let s = rest_below z d other in
    let v_is : q *ℤ pos e +ℤ pos r.0 ≡ v = ap (λ x. q *ℤ pos e +ℤ x) (sym r.2) ∙ floor_rest v e some in
    let z_is : q *ℤ pos d +ℤ pos s.0 ≡ z = ap (λ x. q *ℤ pos d +ℤ x) (sym s.2) ∙ ap (λ x. x *ℤ pos d +ℤ int_rem_euclid z (pos d)) same ∙ floor_rest z d other in
    let h' : o ≡ int_cmp (pos r.0 *ℤ pos d) (pos s.0 *ℤ pos e) = h ∙ ap (λ x. int_cmp (x *ℤ pos d) (int_rem_euclid z (pos d) *ℤ pos e)) r.2 ∙ ap (λ x. int_cmp (pos r.0 *ℤ pos d) (x *ℤ pos e)) s.2 in
    same_whole o q r.0 s.0 e d h' ∙ ap (λ x. int_cmp (x *ℤ pos d) ((q *ℤ pos d +ℤ pos s.0) *ℤ pos e)) v_is ∙ ap (λ x. int_cmp (v *ℤ pos d) (x *ℤ pos e)) z_is

wholes_of : (o : Ordering) (v z : ℤ) (e d : ℕ) → 0 < e → 0 < d → (o ≡ Equal → ⊥) → o ≡ int_cmp (int_div_euclid v (pos e)) (int_div_euclid z (pos d)) → o ≡ int_cmp (v *ℤ pos d) (z *ℤ pos e)
wholes_of o v z e d some other apart h =
    let q = int_div_euclid v (pos e) in
    let p = int_div_euclid z (pos d) in
    let r = rest_below v e some in
    let s = rest_below z d other in
    let v_is : q *ℤ pos e +ℤ pos r.0 ≡ v = ap (λ x. q *ℤ pos e +ℤ x) (sym r.2) ∙ floor_rest v e some in
    let z_is : p *ℤ pos d +ℤ pos s.0 ≡ z = ap (λ x. p *ℤ pos d +ℤ x) (sym s.2) ∙ floor_rest z d other in
    let up_to : q <ℤ p → (v *ℤ pos d) <ℤ (z *ℤ pos e) = λ l. subst (λ x. (v *ℤ pos d) <ℤ (x *ℤ pos e)) z_is (subst (λ x. (x *ℤ pos d) <ℤ ((p *ℤ pos d +ℤ pos s.0) *ℤ pos e)) v_is (lower_whole q p r.0 s.0 e d r.1 other l)) in
    let down_to : p <ℤ q → (z *ℤ pos e) <ℤ (v *ℤ pos d) = λ l. subst (λ x. (x *ℤ pos e) <ℤ (v *ℤ pos d)) z_is (subst (λ x. ((p *ℤ pos d +ℤ pos s.0) *ℤ pos e) <ℤ (x *ℤ pos d)) v_is (lower_whole p q s.0 r.0 d e s.1 some l)) in
    answer_of o q p (v *ℤ pos d) (z *ℤ pos e) h up_to (λ k. absurd (apart (h ∙ ap (λ x. int_cmp x p) k ∙ tied_itself int_cmp_total p))) down_to

pub by_rests : (o : Ordering) (v e z d : ℤ) → pos 1 ≤ℤ e → pos 1 ≤ℤ d → int_div_euclid v e ≡ int_div_euclid z d → o ≡ int_cmp (int_rem_euclid v e *ℤ d) (int_rem_euclid z d *ℤ e) → o ≡ quotient_cmp v e z d
by_rests o v (pos e) z (pos d) p q same h = rests_of o v z e d (omega (arith, ints)) (omega (arith, ints)) same h
by_rests o v (negsuc e) z d p q same h = absurd (omega (arith, ints))
by_rests o v (pos e) z (negsuc d) p q same h = absurd (omega (arith, ints))

pub by_wholes : (o : Ordering) (v e z d : ℤ) → pos 1 ≤ℤ e → pos 1 ≤ℤ d → (o ≡ Equal → ⊥) → o ≡ int_cmp (int_div_euclid v e) (int_div_euclid z d) → o ≡ quotient_cmp v e z d
by_wholes o v (pos e) z (pos d) p q apart h = wholes_of o v z e d (omega (arith, ints)) (omega (arith, ints)) apart h
by_wholes o v (negsuc e) z d p q apart h = absurd (omega (arith, ints))
by_wholes o v (pos e) z (negsuc d) p q apart h = absurd (omega (arith, ints))

-- the same with each number read again, as the code hands it on
pub by_wholes_read : (o : Ordering) (v e z d q p : ℤ) → FitsSigned w128 v → FitsSigned w64 e → FitsSigned w128 z → FitsSigned w64 d → FitsSigned w128 q → FitsSigned w128 p → pos 1 ≤ℤ e → pos 1 ≤ℤ d → (o ≡ Equal → ⊥) → o ≡ int_cmp (to_z w128 (of_z w128 q)) (to_z w128 (of_z w128 p)) → q ≡ int_div_euclid (to_z w128 (of_z w128 v)) (to_z w64 (of_z w64 e)) → p ≡ int_div_euclid (to_z w128 (of_z w128 z)) (to_z w64 (of_z w64 d)) → o ≡ quotient_cmp v e z d
by_wholes_read o v e z d q p fv fe fz fd fq fp he hd apart h eq ep =
    let q_is : q ≡ int_div_euclid v e = rw (to_z-of_z w128 v fv, to_z-of_z w64 e fe) at eq in
    let p_is : p ≡ int_div_euclid z d = rw (to_z-of_z w128 z fz, to_z-of_z w64 d fd) at ep in
    let same : o ≡ int_cmp q p = rw (to_z-of_z w128 q fq, to_z-of_z w128 p fp) at h in
    by_wholes o v e z d he hd apart (same ∙ ap (λ x. int_cmp x p) q_is ∙ ap (λ x. int_cmp (int_div_euclid v e) x) p_is)

equal_wholes : (q p : ℤ) → FitsSigned w128 q → FitsSigned w128 p → Equal ≡ int_cmp (to_z w128 (of_z w128 q)) (to_z w128 (of_z w128 p)) → q ≡ p
equal_wholes q p fq fp h =
    let same : Equal ≡ int_cmp q p = rw (to_z-of_z w128 q fq, to_z-of_z w128 p fp) at h in
    int_ranked q p Equal same

pub by_rests_read : (o : Ordering) (v e z d q p r s m n : ℤ) → FitsSigned w128 v → FitsSigned w64 e → FitsSigned w128 z → FitsSigned w64 d → FitsSigned w128 q → FitsSigned w128 p → FitsSigned w64 r → FitsSigned w64 s → FitsSigned w128 m → FitsSigned w128 n → pos 1 ≤ℤ e → pos 1 ≤ℤ d → Equal ≡ int_cmp (to_z w128 (of_z w128 q)) (to_z w128 (of_z w128 p)) → q ≡ int_div_euclid (to_z w128 (of_z w128 v)) (to_z w64 (of_z w64 e)) → p ≡ int_div_euclid (to_z w128 (of_z w128 z)) (to_z w64 (of_z w64 d)) → r ≡ int_rem_euclid (to_z w128 (of_z w128 v)) (to_z w64 (of_z w64 e)) → s ≡ int_rem_euclid (to_z w128 (of_z w128 z)) (to_z w64 (of_z w64 d)) → m ≡ to_z w64 (of_z w64 r) *ℤ to_z w64 (of_z w64 d) → n ≡ to_z w64 (of_z w64 s) *ℤ to_z w64 (of_z w64 e) → o ≡ int_cmp (to_z w128 (of_z w128 m)) (to_z w128 (of_z w128 n)) → o ≡ quotient_cmp v e z d
by_rests_read o v e z d q p r s m n fv fe fz fd fq fp fr fs fm fn he hd level eq ep er es em en h =
    let q_is : q ≡ int_div_euclid v e = rw (to_z-of_z w128 v fv, to_z-of_z w64 e fe) at eq in
    let p_is : p ≡ int_div_euclid z d = rw (to_z-of_z w128 z fz, to_z-of_z w64 d fd) at ep in
    let r_is : r ≡ int_rem_euclid v e = rw (to_z-of_z w128 v fv, to_z-of_z w64 e fe) at er in
    let s_is : s ≡ int_rem_euclid z d = rw (to_z-of_z w128 z fz, to_z-of_z w64 d fd) at es in
    let m_is : m ≡ r *ℤ d = rw (to_z-of_z w64 r fr, to_z-of_z w64 d fd) at em in
    let n_is : n ≡ s *ℤ e = rw (to_z-of_z w64 s fs, to_z-of_z w64 e fe) at en in
    let same : o ≡ int_cmp m n = rw (to_z-of_z w128 m fm, to_z-of_z w128 n fn) at h in
    by_rests o v e z d he hd (sym q_is ∙ equal_wholes q p fq fp level ∙ p_is)
    (same ∙ ap (λ x. int_cmp x n) (m_is ∙ ap (λ x. x *ℤ d) r_is) ∙ ap (λ x. int_cmp (int_rem_euclid v e *ℤ d) x) (n_is ∙ ap (λ x. x *ℤ e) s_is))
