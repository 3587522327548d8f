-- Fractions as whole numbers over a common multiplier.
use Rattle.std.proofs.Common.{ℕ, ◌<◌, ◌≡◌, sym, ap, subst, ◌∙◌, arith, ℤ, pos, ◌+ℤ◌, ◌*ℤ◌, ◌≤ℤ◌}
use Rattle.std.specs.Prelude.{◌↔◌, unsigned_abs}
use Rattle.std.proofs.Math.IntN.{zero-*ℤ}
use Rattle.std.proofs.lemmas.Int.{ints}
use Rattle.lp_base.proofs.Ring.{le_of_mul_right, mul_add_right, mul_assoc, mul_cancel_right, mul_comm, mul_le_right, mul_shuffle, mul_swap}
use Rattle.lp_nums.specs.Fractions.{Fraction, SameValue}
use Rattle.deck_case.specs.Multipliers.{times}
use Rattle.deck_case.specs.Rationals.{IsAtMost, minus, negative, plus, product, size}
use Rattle.deck_case.specs.Steps.{IsClearedBy}
use Rattle.deck_case.proofs.SideSteps.{cross, positive_product, times_plus}
use Rattle.deck_case.proofs.Wholes.{positive_den, times_whole}

-- ---- factors above 0

at_least_one : (z : ℤ) → pos 1 ≤ℤ z → 0 < unsigned_abs z
at_least_one z h = omega (arith, ints, h)

pub cancel : (a b m : ℤ) → pos 1 ≤ℤ m → a *ℤ m ≡ b *ℤ m → a ≡ b
cancel a b m h e =
    let is = positive_den m h in
    mul_cancel_right (unsigned_abs m) a b (at_least_one m h) (ap (λ z. a *ℤ z) (sym is) ∙ e ∙ ap (λ z. b *ℤ z) is)

pub cancel_le : (a b m : ℤ) → pos 1 ≤ℤ m → (a *ℤ m) ≤ℤ (b *ℤ m) → a ≤ℤ b
cancel_le a b m h l =
    let is = positive_den m h in
    le_of_mul_right (unsigned_abs m) a b (at_least_one m h) (subst (λ z. (a *ℤ z) ≤ℤ (b *ℤ z)) is l)

pub factor_le : (a b m : ℤ) → pos 1 ≤ℤ m → a ≤ℤ b → (a *ℤ m) ≤ℤ (b *ℤ m)
factor_le a b m h l =
    let is = positive_den m h in
    subst (λ z. (a *ℤ z) ≤ℤ (b *ℤ z)) (sym is) (mul_le_right (unsigned_abs m) a b l)

-- ---- f is w / m

abbrev pub IsOver : ℤ → ℤ → Fraction → Type 0
IsOver w m f = SameValue f (record { num = w; den = m })

pub over_plus : (w u m : ℤ) (f g : Fraction) → IsOver w m f → IsOver u m g → IsOver (w +ℤ u) m (plus f g)
over_plus w u m f g e k =
    let first : (f.num *ℤ g.den) *ℤ m ≡ w *ℤ (f.den *ℤ g.den) = mul_swap f.num g.den m ∙ ap (λ z. z *ℤ g.den) e ∙ mul_assoc w f.den g.den in
    let second : (g.num *ℤ f.den) *ℤ m ≡ u *ℤ (f.den *ℤ g.den) = mul_swap g.num f.den m ∙ ap (λ z. z *ℤ f.den) k ∙ mul_assoc u g.den f.den ∙ ap (λ z. u *ℤ z) (mul_comm g.den f.den) in
    mul_add_right m (f.num *ℤ g.den) (g.num *ℤ f.den)
    ∙ ap (λ z. z +ℤ ((g.num *ℤ f.den) *ℤ m)) first
    ∙ ap (λ z. (w *ℤ (f.den *ℤ g.den)) +ℤ z) second
    ∙ sym (mul_add_right (f.den *ℤ g.den) w u)

-- the products of both with the denominators
left_product : (u m : ℤ) (b f : Fraction) → IsOver u m b → (b.num *ℤ f.den) *ℤ m ≡ u *ℤ (b.den *ℤ f.den)
left_product u m b f e = mul_swap b.num f.den m ∙ ap (λ z. z *ℤ f.den) e ∙ mul_assoc u b.den f.den

right_product : (w m : ℤ) (b f : Fraction) → IsOver w m f → (f.num *ℤ b.den) *ℤ m ≡ w *ℤ (b.den *ℤ f.den)
right_product w m b f e = left_product w m f b e ∙ ap (λ z. w *ℤ z) (mul_comm f.den b.den)

-- the order of fractions is that of the whole numbers
pub at_most_iff : (u w m : ℤ) (b f : Fraction) → pos 1 ≤ℤ b.den → pos 1 ≤ℤ f.den → pos 1 ≤ℤ m → IsOver u m b → IsOver w m f → IsAtMost b f ↔ (u ≤ℤ w)
at_most_iff u w m b f p q some eb ef =
    let both = positive_product b.den f.den p q in
    let l = left_product u m b f eb in
    let r = right_product w m b f ef in (
      λ h. cancel_le u w (b.den *ℤ f.den) both (subst (λ z. z ≤ℤ (w *ℤ (b.den *ℤ f.den))) l (subst (λ z. ((b.num *ℤ f.den) *ℤ m) ≤ℤ z) r (factor_le (b.num *ℤ f.den) (f.num *ℤ b.den) m some h))),
      λ h. cancel_le (b.num *ℤ f.den) (f.num *ℤ b.den) m some (subst (λ z. z ≤ℤ ((f.num *ℤ b.den) *ℤ m)) (sym l) (subst (λ z. (u *ℤ (b.den *ℤ f.den)) ≤ℤ z) (sym r) (factor_le u w (b.den *ℤ f.den) both h))),
    )

pub same_iff : (u w m : ℤ) (b f : Fraction) → pos 1 ≤ℤ b.den → pos 1 ≤ℤ f.den → pos 1 ≤ℤ m → IsOver u m b → IsOver w m f → SameValue f b ↔ (w ≡ u)
same_iff u w m b f p q some eb ef =
    let both = positive_product b.den f.den p q in
    let l = left_product u m b f eb in
    let r = right_product w m b f ef in (
      λ h. cancel w u (b.den *ℤ f.den) both (sym r ∙ ap (λ z. z *ℤ m) h ∙ l),
      λ h. cancel (f.num *ℤ b.den) (b.num *ℤ f.den) m some (r ∙ ap (λ z. z *ℤ (b.den *ℤ f.den)) h ∙ sym l),
    )

-- the same value as another fraction n / k
pub value_iff : (w m n k : ℤ) (f : Fraction) → pos 1 ≤ℤ f.den → pos 1 ≤ℤ m → IsOver w m f → ((w *ℤ k) ≡ (n *ℤ m)) ↔ SameValue f (record { num = n; den = k })
value_iff w m n k f p some e = (
  λ h. cancel (f.num *ℤ k) (n *ℤ f.den) m some (mul_swap f.num k m ∙ ap (λ z. z *ℤ k) e ∙ mul_swap w f.den k ∙ ap (λ z. z *ℤ f.den) h ∙ mul_swap n m f.den),
  λ h. cancel (w *ℤ k) (n *ℤ m) f.den p (mul_swap w k f.den ∙ ap (λ z. z *ℤ k) (sym e) ∙ mul_swap f.num m k ∙ ap (λ z. z *ℤ m) h ∙ mul_swap n f.den m),
)

-- ---- whole numbers times a multiplier

-- m times f is whole
pub record IsWhole (m : ℕ) (f : Fraction) : Type 0 where
  pub positive : pos 1 ≤ℤ f.den
  pub exact : times m f *ℤ f.den ≡ f.num *ℤ pos m

pub whole_cleared : (m : ℕ) (f : Fraction) → IsClearedBy m f → IsWhole m f
whole_cleared m f c = record { positive = c.positive; exact = times_whole m f c.positive c.divides }

pub whole_above : (m : ℕ) (b r : Fraction) → IsClearedBy m b → IsClearedBy m r → IsWhole m (plus b (size r))
whole_above m b r p q =
    let cleared : IsClearedBy m (size r) = record { positive = q.positive; divides = q.divides; small = q.small } in
    record {
      positive = positive_product b.den r.den p.positive q.positive;
      exact = ap (λ z. z *ℤ (b.den *ℤ r.den)) (times_plus m b (size r) p cleared)
          ∙ cross (times m b) (times m (size r)) b.den r.den b.num (size r).num (pos m) (times_whole m b p.positive p.divides) (times_whole m (size r) q.positive q.divides);
    }

pub whole_below : (m : ℕ) (b r : Fraction) → IsClearedBy m b → IsClearedBy m r → IsWhole m (minus b (size r))
whole_below m b r p q =
    let s = negative (size r) in
    let cleared : IsClearedBy m s = record { positive = q.positive; divides = q.divides; small = q.small } in
    record {
      positive = positive_product b.den r.den p.positive q.positive;
      exact = ap (λ z. z *ℤ (b.den *ℤ r.den)) (times_plus m b s p cleared)
          ∙ cross (times m b) (times m s) b.den r.den b.num s.num (pos m) (times_whole m b p.positive p.divides) (times_whole m s q.positive q.divides);
    }

-- over m times a further denominator d
pub over_whole : (m d : ℕ) (f : Fraction) → IsWhole m f → IsOver (times m f *ℤ pos d) (pos m *ℤ pos d) f
over_whole m d f h = sym (mul_assoc f.num (pos m) (pos d)) ∙ ap (λ z. z *ℤ pos d) (sym h.exact) ∙ mul_swap (times m f) f.den (pos d)

-- a number of the deck times the value x / d of a column
pub over_product : (m d : ℕ) (v : Fraction) (x : ℤ) → IsWhole m v → IsOver (times m v *ℤ x) (pos m *ℤ pos d) (product v (record { num = x; den = pos d }))
over_product m d v x h =
    mul_shuffle v.num x (pos m) (pos d)
    ∙ ap (λ z. z *ℤ (x *ℤ pos d)) (sym h.exact)
    ∙ mul_shuffle (times m v) v.den x (pos d)

pub zero_times : (m : ℕ) (f : Fraction) → IsWhole m f → f.num ≡ pos 0 → times m f ≡ pos 0
zero_times m f h e = cancel (times m f) (pos 0) f.den h.positive (h.exact ∙ ap (λ z. z *ℤ pos m) e ∙ zero-*ℤ (pos m) ∙ sym (zero-*ℤ f.den))
