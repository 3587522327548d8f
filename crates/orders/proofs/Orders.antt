-- Signs of values with parts.
use Rattle.std.proofs.Common.{ℕ, zero, suc, ◌<◌, ◌≤◌, ◌≡◌, sym, ap, ◌∙◌, subst, arith, ℤ, pos, ◌+ℤ◌, ◌-ℤ◌, ◌*ℤ◌, neg_ℤ, ◌<ℤ◌, ◌≤ℤ◌, ◌⊎◌, inl, inr}
use Rattle.std.proofs.lemmas.Int.{ints, by_lt_z}
use Rattle.std.proofs.lemmas.Bool.{cases_lt}
use Rattle.std.proofs.Math.IntN.{*ℤ-zero}
use Rattle.lp_base.proofs.Ring.{mul_add_left, mul_assoc, mul_comm, mul_lt_right}
use Rattle.orders.specs.Order.{IsAbove, IsBelow, IsZero, IsLess}

pub by_lt : {P : Type 0} (a b : ℕ) → (a < b → P) → (b ≤ a → P) → P
by_lt a b f g = elim (cases_lt a b) [
  | inl h ↦ f h
  | inr h ↦ g h
]

-- the same numbers have the same sign
pub above_same : (n : ℕ) (v w : ℕ → ℤ) → ((p : ℕ) → p < n → v p ≡ w p) → IsAbove n v → IsAbove n w
above_same n v w same h = record {
  at = h.at;
  within = h.within;
  before = λ q lt. sym (same q (omega (arith, lt, h.within))) ∙ h.before q lt;
  number = subst (λ (z : ℤ). pos 0 <ℤ z) (same h.at h.within) h.number;
}

-- a value is not above and below 0 at once
pub above_below : (n : ℕ) (v : ℕ → ℤ) → IsAbove n v → IsBelow n v → ⊥
above_below n v a b =
    by_lt a.at b.at
    (λ lt. omega (arith, ints, a.number, b.before a.at lt))
    (λ ge. by_lt b.at a.at (λ lt. omega (arith, ints, b.number, a.before b.at lt)) (λ le.
    let same : a.at ≡ b.at = omega (arith, ge, le) in
    let n : pos 0 <ℤ neg_ℤ (v a.at) = subst (λ (p : ℕ). pos 0 <ℤ neg_ℤ (v p)) (sym same) b.number in
    omega (arith, ints, a.number, n)))

pub above_zero : (n : ℕ) (v : ℕ → ℤ) → IsAbove n v → IsZero n v → ⊥
above_zero n v a z = omega (arith, ints, a.number, z a.at a.within)

-- a value is above 0, below 0 or 0
pub above_cases : (n : ℕ) (v : ℕ → ℤ) → IsAbove n v ⊎ (IsBelow n v ⊎ IsZero n v)
above_cases zero v = inr (inr (λ p h. absurd (omega arith)))
above_cases (suc n) v = elim (above_cases n v) [
  | inl a ↦ inl (record { at = a.at; within = omega (arith, a.within); before = a.before; number = a.number })
  | inr other ↦ elim other [
    | inl b ↦ inr (inl (record { at = b.at; within = omega (arith, b.within); before = b.before; number = b.number }))
    | inr z ↦ last n v z
  ]
]
  where
    at_most : (n p : ℕ) (v : ℕ → ℤ) → IsZero n v → v n ≡ pos 0 → p < suc n → v p ≡ pos 0
    at_most n p v z here h = by_lt p n (λ lt. z p lt) (λ ge. let e : p ≡ n = omega (arith, h, ge) in ap v e ∙ here)

    last : (n : ℕ) (v : ℕ → ℤ) → IsZero n v → IsAbove (suc n) v ⊎ (IsBelow (suc n) v ⊎ IsZero (suc n) v)
    last n v z =
        by_lt_z (pos 0) (v n)
        (λ above. inl (record { at = n; within = omega arith; before = z; number = above }))
        (λ not_above. by_lt_z (v n) (pos 0)
        (λ below. inr (inl (record { at = n; within = omega arith; before = λ q lt. ap neg_ℤ (z q lt); number = omega (arith, ints, below) })))
        (λ not_below. inr (inr (λ p h. at_most n p v z (omega (arith, ints, not_above, not_below)) h))))

-- sums and multiples
times_positive : (a z : ℤ) → pos 0 <ℤ a → pos 0 <ℤ z → pos 0 <ℤ (a *ℤ z)
times_positive a z ha hz =
    let k : a ≡ pos (up_of a) = omega (arith, ints, ha) in
    let m = mul_lt_right (up_of a) (pos 0) z (omega (arith, ints, ha)) hz in
    let c : z *ℤ pos (up_of a) ≡ a *ℤ z = ap (λ y. z *ℤ y) (sym k) ∙ mul_comm z a in
    omega (arith, ints, m, c)
  where
    up_of : ℤ → ℕ
    up_of a = Rattle.std.specs.Prelude.unsigned_abs a

pub above_times : (n : ℕ) (a : ℤ) (v : ℕ → ℤ) → pos 0 <ℤ a → IsAbove n v → IsAbove n (λ p. a *ℤ v p)
above_times n a v ha h = record {
  at = h.at;
  within = h.within;
  before = λ q lt. ap (λ z. a *ℤ z) (h.before q lt) ∙ *ℤ-zero a;
  number = times_positive a (v h.at) ha h.number;
}

pub above_sum : (n : ℕ) (v w : ℕ → ℤ) → IsAbove n v → IsAbove n w → IsAbove n (λ p. v p +ℤ w p)
above_sum n v w a b =
    by_lt a.at b.at
    (λ lt. record {
      at = a.at;
      within = a.within;
      before = λ q h. omega (arith, ints, a.before q h, b.before q (omega (arith, h, lt)));
      number = omega (arith, ints, a.number, b.before a.at lt);
    })
    (λ ge. by_lt b.at a.at
    (λ lt. record {
      at = b.at;
      within = b.within;
      before = λ q h. omega (arith, ints, b.before q h, a.before q (omega (arith, h, lt)));
      number = omega (arith, ints, b.number, a.before b.at lt);
    })
    (λ le.
    let same : b.at ≡ a.at = omega (arith, ge, le) in
    let number : pos 0 <ℤ w a.at = subst (λ (p : ℕ). pos 0 <ℤ w p) same b.number in
    record {
      at = a.at;
      within = a.within;
      before = λ q h. omega (arith, ints, a.before q h, b.before q (omega (arith, h, same)));
      number = omega (arith, ints, a.number, number);
    }))

zero_number : (a z : ℤ) → pos 0 <ℤ a → a *ℤ z ≡ pos 0 → z ≡ pos 0
zero_number a z ha e =
    by_lt_z (pos 0) z (λ above. absurd (omega (arith, ints, e, times_positive a z ha above)))
    (λ not_above. by_lt_z z (pos 0)
    (λ below.
    let m = times_positive a (neg_ℤ z) ha (omega (arith, ints, below)) in
    let s = mul_add_left a z (neg_ℤ z) in
    let o : a *ℤ (z +ℤ neg_ℤ z) ≡ pos 0 = ap (λ y. a *ℤ y) (omega (arith, ints)) ∙ *ℤ-zero a in
    absurd (omega (arith, ints, e, m, s, o)))
    (λ not_below. omega (arith, ints, not_above, not_below)))

positive_number : (a z : ℤ) → pos 0 <ℤ a → pos 0 <ℤ (a *ℤ z) → pos 0 <ℤ z
positive_number a z ha h =
    by_lt_z (pos 0) z (λ above. above)
    (λ not_above.
    by_lt_z z (pos 0)
    (λ below.
    let m = times_positive a (neg_ℤ z) ha (omega (arith, ints, below)) in
    let s = mul_add_left a z (neg_ℤ z) in
    let o : a *ℤ (z +ℤ neg_ℤ z) ≡ pos 0 = ap (λ y. a *ℤ y) (omega (arith, ints)) ∙ *ℤ-zero a in
    absurd (omega (arith, ints, h, m, s, o)))
    (λ not_below.
    let z0 : z ≡ pos 0 = omega (arith, ints, not_above, not_below) in
    absurd (omega (arith, ints, h, ap (λ y. a *ℤ y) z0 ∙ *ℤ-zero a))))

pub above_from_times : (n : ℕ) (a : ℤ) (v : ℕ → ℤ) → pos 0 <ℤ a → IsAbove n (λ p. a *ℤ v p) → IsAbove n v
above_from_times n a v ha h = record {
  at = h.at;
  within = h.within;
  before = λ q lt. zero_number a (v q) ha (h.before q lt);
  number = positive_number a (v h.at) ha h.number;
}

-- where all later parts are at least 0, a value is below 0 by its first part
pub below_first : (n : ℕ) (v : ℕ → ℤ) → IsBelow n v → ((p : ℕ) → p < n → 0 < p → pos 0 ≤ℤ v p) → v 0 <ℤ pos 0
below_first n v b later =
    by_lt 0 b.at
    (λ lt. absurd (omega (arith, ints, b.number, later b.at b.within lt)))
    (λ ge.
    let e : b.at ≡ 0 = omega (arith, ge) in
    let number : pos 0 <ℤ neg_ℤ (v 0) = subst (λ (p : ℕ). pos 0 <ℤ neg_ℤ (v p)) e b.number in
    omega (arith, ints, number))

-- where it is above 0, its first part is not below 0
pub above_first : (n : ℕ) (v : ℕ → ℤ) → IsAbove n v → pos 0 ≤ℤ v 0
above_first n v a =
    by_lt 0 a.at
    (λ lt. omega (arith, ints, a.before 0 lt))
    (λ ge.
    let e : a.at ≡ 0 = omega (arith, ge) in
    let number : pos 0 <ℤ v 0 = subst (λ (p : ℕ). pos 0 <ℤ v p) e a.number in
    omega (arith, ints, number))

-- the order of quotients is transitive, and equal quotients are not less
shift : (d e f x y z : ℤ) → e *ℤ ((d *ℤ z) -ℤ (f *ℤ x)) ≡ (f *ℤ ((d *ℤ y) -ℤ (e *ℤ x))) +ℤ (d *ℤ ((e *ℤ z) -ℤ (f *ℤ y)))
shift d e f x y z =
    let a : e *ℤ (d *ℤ z) ≡ d *ℤ (e *ℤ z) = swap e d z in
    let b : e *ℤ (f *ℤ x) ≡ f *ℤ (e *ℤ x) = swap e f x in
    let c : f *ℤ (d *ℤ y) ≡ d *ℤ (f *ℤ y) = swap f d y in
    omega (arith, ints, a, b, c, less e (d *ℤ z) (f *ℤ x), less f (d *ℤ y) (e *ℤ x), less d (e *ℤ z) (f *ℤ y))
  where
    swap : (a b c : ℤ) → a *ℤ (b *ℤ c) ≡ b *ℤ (a *ℤ c)
    swap a b c = sym (mul_assoc a b c) ∙ ap (λ z. z *ℤ c) (mul_comm a b) ∙ mul_assoc b a c

    less : (a b c : ℤ) → a *ℤ (b -ℤ c) ≡ (a *ℤ b) -ℤ (a *ℤ c)
    less a b c =
        let s = mul_add_left a (b -ℤ c) c in
        let t : (b -ℤ c) +ℤ c ≡ b = omega (arith, ints) in
        omega (arith, ints, s, ap (λ z. a *ℤ z) t)

pub less_trans : (n : ℕ) (d e f : ℤ) (u v w : ℕ → ℤ) → pos 0 <ℤ d → pos 0 <ℤ e → pos 0 <ℤ f → IsLess n d u e v → IsLess n e v f w → IsLess n d u f w
less_trans n d e f u v w hd he hf a b =
    above_from_times n e (λ p. (d *ℤ w p) -ℤ (f *ℤ u p)) he
    (above_same n (λ p. (f *ℤ ((d *ℤ v p) -ℤ (e *ℤ u p))) +ℤ (d *ℤ ((e *ℤ w p) -ℤ (f *ℤ v p)))) (λ p. e *ℤ ((d *ℤ w p) -ℤ (f *ℤ u p)))
    (λ p h. sym (shift d e f (u p) (v p) (w p)))
    (above_sum n (λ p. f *ℤ ((d *ℤ v p) -ℤ (e *ℤ u p))) (λ p. d *ℤ ((e *ℤ w p) -ℤ (f *ℤ v p))) (above_times n f (λ p. (d *ℤ v p) -ℤ (e *ℤ u p)) hf a) (above_times n d (λ p. (e *ℤ w p) -ℤ (f *ℤ v p)) hd b)))

pub less_not_same : (n : ℕ) (d e : ℤ) (v w : ℕ → ℤ) → ((p : ℕ) → p < n → d *ℤ w p ≡ e *ℤ v p) → IsLess n d v e w → ⊥
less_not_same n d e v w same h = above_zero n (λ p. (d *ℤ w p) -ℤ (e *ℤ v p)) h (λ p lt. omega (arith, ints, same p lt))
