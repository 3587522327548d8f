-- What true verdicts say of each other.
use Rattle.std.proofs.Common.{ℕ, zero, suc, ◌*◌, ◌<◌, ◌≤◌, ◌≡◌, ◌∙◌, sym, ap, arith, ℤ, pos, negsuc, ◌+ℤ◌, ◌*ℤ◌, ◌≤ℤ◌, ◌<ℤ◌}
use Rattle.std.specs.Prelude.{unsigned_abs, neg_ℤ}
use Rattle.std.proofs.lemmas.Int.{ints, by_lt_z}
use Rattle.std.proofs.Math.Nat.{mul-le-mul}
use Rattle.std.proofs.Math.IntN.{*ℤ-one, zero-*ℤ}
use Rattle.lp_base.proofs.Ring.{mul_comm, mul_add_left, mul_add_right, mul_swap, mul_shuffle, mul_lt_right, mul_le_right, mul_cancel_right}
use Rattle.sense.proofs.SenseLaws.{equal_signed}
use Rattle.lpcc_case.specs.Instance.{Instance}
use Rattle.lpcc_case.specs.Points.{cost_at}
use Rattle.lp_nums.specs.Fractions.{Fraction, SameValue}
use Rattle.lpcc_case.specs.declared.verdict.Verdict.{Verdict}
use Rattle.lpcc_case.specs.declared.verdict.Verdict.TheVariants.{Optimal, Infeasible, Unbounded}
use Rattle.lpcc_case.specs.Verdicts.{IsOptimal, IsInfeasible, IsUnbounded, IsTrueOf, SameVerdict}

-- neither is lower, so the costs are equal
equal_costs : (u v : ℤ) (k l : ℕ) → ((u *ℤ pos l) <ℤ (v *ℤ pos k) → ⊥) → ((v *ℤ pos k) <ℤ (u *ℤ pos l) → ⊥) → (u *ℤ pos l) ≡ (v *ℤ pos k)
equal_costs u v k l h1 h2 = by_lt_z (u *ℤ pos l) (v *ℤ pos k) (λ lt. absurd (h1 lt)) (λ ge. by_lt_z (v *ℤ pos k) (u *ℤ pos l) (λ lt. absurd (h2 lt)) (λ le. omega (arith, ints, ge, le)))

-- with the offset o
equal_with_offset : (u v o : ℤ) (k l : ℕ) → (u *ℤ pos l) ≡ (v *ℤ pos k) → ((u +ℤ (o *ℤ pos k)) *ℤ pos l) ≡ ((v +ℤ (o *ℤ pos l)) *ℤ pos k)
equal_with_offset u v o k l e = omega (arith, ints, e, mul_add_right (pos l) u (o *ℤ pos k), mul_add_right (pos k) v (o *ℤ pos l), mul_swap o (pos k) (pos l))

-- fractions n / d and m / e of values x / (s k) and y / (s l), where x l = y k
same_fraction : (n m x y s : ℤ) (d e k l : ℕ) → (x *ℤ pos d) ≡ (n *ℤ (s *ℤ pos k)) → (y *ℤ pos e) ≡ (m *ℤ (s *ℤ pos l)) → (x *ℤ pos l) ≡ (y *ℤ pos k) → ((n *ℤ pos e) *ℤ ((s *ℤ pos k) *ℤ pos l)) ≡ ((m *ℤ pos d) *ℤ ((s *ℤ pos k) *ℤ pos l))
same_fraction n m x y s d e k l hx hy same =
    sym (mul_shuffle n (s *ℤ pos k) (pos e) (pos l))
    ∙ ap (λ z. z *ℤ (pos e *ℤ pos l)) (sym hx)
    ∙ ap (λ z. (x *ℤ pos d) *ℤ z) (mul_comm (pos e) (pos l))
    ∙ mul_shuffle x (pos d) (pos l) (pos e)
    ∙ ap (λ z. z *ℤ (pos d *ℤ pos e)) same
    ∙ ap (λ z. (y *ℤ pos k) *ℤ z) (mul_comm (pos d) (pos e))
    ∙ mul_shuffle y (pos k) (pos e) (pos d)
    ∙ ap (λ z. z *ℤ (pos k *ℤ pos d)) hy
    ∙ ap (λ z. (m *ℤ (s *ℤ pos l)) *ℤ z) (mul_comm (pos k) (pos d))
    ∙ mul_shuffle m (s *ℤ pos l) (pos d) (pos k)
    ∙ ap (λ z. (m *ℤ pos d) *ℤ z) (mul_swap s (pos l) (pos k))

-- a common factor above 0 is cancelled
cancel_scale : (a b s : ℤ) (k l : ℕ) → pos 1 ≤ℤ s → 0 < k → 0 < l → (a *ℤ ((s *ℤ pos k) *ℤ pos l)) ≡ (b *ℤ ((s *ℤ pos k) *ℤ pos l)) → a ≡ b
cancel_scale a b (pos r) k l hs hk hl e =
    let r_above : 1 ≤ r = omega (arith, ints) in
    let rk_above : 1 * 1 ≤ r * k = mul-le-mul r_above hk in
    let all_above : 1 * 1 ≤ r * k * l = mul-le-mul rk_above hl in
    mul_cancel_right (r * k * l) a b (omega arith) e
cancel_scale a b (negsuc r) k l hs hk hl e = absurd (omega (arith, ints))

optimal-unique : (a : Instance) (n m : ℤ) (d e : ℕ) → pos 1 ≤ℤ a.scale → IsOptimal a n d → IsOptimal a m e → (n *ℤ pos e) ≡ (m *ℤ pos d)
optimal-unique a n m d e scale one two =
    let p = one.0 in
    let q = two.0 in
    let same = equal_costs (cost_at a p) (cost_at a q) p.d q.d (λ lt. two.4 p one.2 lt) (λ lt. one.4 q two.2 lt) in
    cancel_scale (n *ℤ pos e) (m *ℤ pos d) a.scale p.d q.d scale p.positive q.positive
    (same_fraction n m _ _ a.scale d e p.d q.d one.3 two.3 (equal_signed a.sense _ _ (pos p.d) (pos q.d) (equal_with_offset (cost_at a p) (cost_at a q) a.offset p.d q.d same)))

-- a number that is not above 0 times a factor of at least 1
times_below : (b u : ℤ) (k : ℕ) → 0 < k → b ≤ℤ pos 0 → b ≤ℤ u → (b *ℤ pos k) ≤ℤ u
times_below b u (suc j) h not_above le =
    let one_more : pos (suc j) ≡ (pos j +ℤ pos 1) = omega (arith, ints) in
    rw one_more (omega (arith, ints, mul_le_right j b (pos 0) not_above, zero-*ℤ (pos j), mul_add_left b (pos j) (pos 1), *ℤ-one b, le))
times_below b u zero h not_above le = absurd (omega arith)

-- below minus the size of u lies what is lower than u over k
below_is_lower : (u v : ℤ) (k l : ℕ) → 0 < k → 0 < l → v <ℤ (neg_ℤ (pos (unsigned_abs u)) *ℤ pos l) → (v *ℤ pos k) <ℤ (u *ℤ pos l)
below_is_lower u v k l hk hl h =
    let b = neg_ℤ (pos (unsigned_abs u)) in
    let first = mul_lt_right k v (b *ℤ pos l) hk h in
    let least = times_below b u k hk (omega (arith, ints)) (omega (arith, ints)) in
    let second = mul_le_right l (b *ℤ pos k) u least in
    omega (arith, ints, first, second, mul_swap b (pos l) (pos k))

optimal-unbounded : (a : Instance) (n : ℤ) (d : ℕ) → IsOptimal a n d → IsUnbounded a → ⊥
optimal-unbounded a n d best unbounded =
    let p = best.0 in
    let found = unbounded (neg_ℤ (pos (unsigned_abs (cost_at a p)))) in
    let q = found.0 in
    best.4 q found.1 (below_is_lower (cost_at a p) (cost_at a q) p.d q.d p.positive q.positive found.2)

optimal-infeasible : (a : Instance) (n : ℤ) (d : ℕ) → IsOptimal a n d → IsInfeasible a → ⊥
optimal-infeasible a n d best none = none best.0 best.2

infeasible-unbounded : (a : Instance) → IsInfeasible a → IsUnbounded a → ⊥
infeasible-unbounded a none unbounded = let found = unbounded (pos 0) in none found.0 found.1

same-value : (a : Instance) (v w : Fraction) → pos 1 ≤ℤ a.scale → IsTrueOf a (Optimal v) → IsTrueOf a (Optimal w) → SameValue v w
same-value a v w scale one two =
    rw (← one.1, ← two.1) (optimal-unique a v.num w.num one.0 two.0 scale one.2 two.2)

pub same-verdict : (a : Instance) (v w : Verdict) → pos 1 ≤ℤ a.scale → IsTrueOf a v → IsTrueOf a w → SameVerdict v w
same-verdict a (Optimal v) (Optimal w) scale one two = same-value a v w scale one two
same-verdict a (Optimal v) Infeasible scale one two = optimal-infeasible a v.num one.0 one.2 two
same-verdict a (Optimal v) Unbounded scale one two = optimal-unbounded a v.num one.0 one.2 two
same-verdict a Infeasible (Optimal w) scale one two = optimal-infeasible a w.num two.0 two.2 one
same-verdict a Infeasible Infeasible scale one two = tt
same-verdict a Infeasible Unbounded scale one two = infeasible-unbounded a one two
same-verdict a Unbounded (Optimal w) scale one two = optimal-unbounded a w.num two.0 two.2 one
same-verdict a Unbounded Infeasible scale one two = infeasible-unbounded a two one
same-verdict a Unbounded Unbounded scale one two = tt
