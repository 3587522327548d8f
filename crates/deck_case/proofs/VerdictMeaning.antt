-- The verdicts that are true of the case of a deck are those that are true of the deck.
use Rattle.std.proofs.Common.{ℕ, ◌+◌, ◌<◌, ◌≡◌, sym, ap, subst, ◌∙◌, arith, ℤ, pos, neg_ℤ, ◌+ℤ◌, ◌*ℤ◌, ◌≤ℤ◌, length}
use Rattle.std.specs.Prelude.{◌↔◌, ◌<ℤ◌, All, unsigned_abs}
use Rattle.std.proofs.lemmas.Int.{ints, by_lt_z}
use Rattle.std.proofs.lemmas.List.Elements.{All-nil}
use Rattle.lp_base.proofs.Ring.{mul_add_right, mul_assoc, mul_comm, mul_le_left, mul_shuffle, mul_swap}
use Rattle.lp_nums.specs.Fractions.{Fraction, SameValue}
use Rattle.sense.specs.declared.objective.Sense.{Sense}
use Rattle.sense.specs.declared.objective.Sense.TheVariants.{Min, Max}
use Rattle.sense.specs.Senses.{signed}
use Rattle.lpcc_case.specs.Cases.{IsCase}
use Rattle.lpcc_case.specs.Instance.{Instance}
use Rattle.lpcc_case.specs.Points.{Point, IsFeasible, IsLower, cost_at}
use Rattle.lpcc_case.specs.Verdicts.{IsTrueOf, IsUnbounded}
use Rattle.lpcc_case.specs.declared.verdict.Verdict.{Verdict}
use Rattle.lpcc_case.specs.declared.verdict.Verdict.TheVariants.{Optimal, Infeasible, Unbounded}
use Rattle.decks.specs.Decks.{IsDeck, NamesQuantity}
use Rattle.decks.specs.declared.deck.GroupLine.{GroupLine}
use Rattle.decks.specs.declared.deck.Deck.{Deck}
use Rattle.deck_case.specs.DeckCases.{HasCase, case_of_deck}
use Rattle.deck_case.specs.DeckPoints.{MeetsDeck}
use Rattle.deck_case.specs.DeckVerdicts.{IsBestValue, IsBetter, IsNotBetter, IsTrueOfDeck, relaxed, relaxed_deck, value_at, whole}
use Rattle.deck_case.specs.Rationals.{IsAtMost, IsBelow}
use Rattle.deck_case.proofs.CaseFacts.{is_case}
use Rattle.deck_case.proofs.DeckMeaning.{lifted, objective_is, scale_positive}
use Rattle.deck_case.proofs.Feasibility.{feasible_law}
use Rattle.deck_case.proofs.RationalLaws.{IsOver, cancel_le, factor_le, value_iff}
use Rattle.deck_case.proofs.SideSteps.{negated_product}
use Rattle.deck_case.proofs.SignLaws.{signed_twice}
use Rattle.deck_case.proofs.Wholes.{positive_den}

-- ---- order of quotients

not_both : (x y : ℤ) → x <ℤ y → y ≤ℤ x → ⊥
not_both x y h k = omega (arith, ints)

-- a k = c m and b k = d m
crossed : (a b c d k m : ℤ) → pos 1 ≤ℤ k → pos 1 ≤ℤ m → a *ℤ k ≡ c *ℤ m → b *ℤ k ≡ d *ℤ m → (a ≤ℤ b) ↔ (c ≤ℤ d)
crossed a b c d k m p q l r = (
  λ h. cancel_le c d m q (subst (λ z. z ≤ℤ (d *ℤ m)) l (subst (λ z. (a *ℤ k) ≤ℤ z) r (factor_le a b k p h))),
  λ h. cancel_le a b k p (subst (λ z. z ≤ℤ (b *ℤ k)) (sym l) (subst (λ z. (c *ℤ m) ≤ℤ z) (sym r) (factor_le c d m q h))),
)

-- a fraction against f = w / m
at_most_over : (w m : ℤ) (v f : Fraction) → pos 1 ≤ℤ f.den → pos 1 ≤ℤ m → IsOver w m f → IsAtMost v f ↔ ((v.num *ℤ m) ≤ℤ (w *ℤ v.den))
at_most_over w m v f p some e =
    crossed (v.num *ℤ f.den) (f.num *ℤ v.den) (v.num *ℤ m) (w *ℤ v.den) m f.den some p
    (mul_swap v.num f.den m)
    (mul_swap f.num v.den m ∙ ap (λ z. z *ℤ v.den) e ∙ mul_swap w f.den v.den)

over_at_most : (w m : ℤ) (v f : Fraction) → pos 1 ≤ℤ f.den → pos 1 ≤ℤ m → IsOver w m f → IsAtMost f v ↔ ((w *ℤ v.den) ≤ℤ (v.num *ℤ m))
over_at_most w m v f p some e =
    crossed (f.num *ℤ v.den) (v.num *ℤ f.den) (w *ℤ v.den) (v.num *ℤ m) m f.den some p
    (mul_swap f.num v.den m ∙ ap (λ z. z *ℤ v.den) e ∙ mul_swap w f.den v.den)
    (mul_swap v.num f.den m)

below_over : (w m : ℤ) (v f : Fraction) → pos 1 ≤ℤ f.den → pos 1 ≤ℤ m → IsOver w m f → IsBelow f v ↔ ((w *ℤ v.den) <ℤ (v.num *ℤ m))
below_over w m v f p some e =
    let iff = at_most_over w m v f p some e in (
      λ h. by_lt_z (w *ℤ v.den) (v.num *ℤ m) (λ lt. lt) (λ other. absurd (not_both (f.num *ℤ v.den) (v.num *ℤ f.den) h (iff.1 other))),
      λ h. by_lt_z (f.num *ℤ v.den) (v.num *ℤ f.den) (λ lt. lt) (λ other. absurd (not_both (w *ℤ v.den) (v.num *ℤ m) h (iff.0 other))),
    )

over_below : (w m : ℤ) (v f : Fraction) → pos 1 ≤ℤ f.den → pos 1 ≤ℤ m → IsOver w m f → IsBelow v f ↔ ((v.num *ℤ m) <ℤ (w *ℤ v.den))
over_below w m v f p some e =
    let iff = over_at_most w m v f p some e in (
      λ h. by_lt_z (v.num *ℤ m) (w *ℤ v.den) (λ lt. lt) (λ other. absurd (not_both (v.num *ℤ f.den) (f.num *ℤ v.den) h (iff.1 other))),
      λ h. by_lt_z (v.num *ℤ f.den) (f.num *ℤ v.den) (λ lt. lt) (λ other. absurd (not_both (v.num *ℤ m) (w *ℤ v.den) h (iff.0 other))),
    )

-- n / k = w / m is at most u / l
least_iff : (n k w m u l : ℤ) → pos 1 ≤ℤ k → pos 1 ≤ℤ m → w *ℤ k ≡ n *ℤ m → ((w *ℤ l) ≤ℤ (u *ℤ m)) ↔ ((n *ℤ l) ≤ℤ (u *ℤ k))
least_iff n k w m u l p q e =
    crossed (w *ℤ l) (u *ℤ m) (n *ℤ l) (u *ℤ k) k m p q
    (mul_swap w l k ∙ ap (λ z. z *ℤ l) e ∙ mul_swap n m l)
    (mul_swap u m k)

-- it is at least u / l
greatest_iff : (n k w m u l : ℤ) → pos 1 ≤ℤ k → pos 1 ≤ℤ m → w *ℤ k ≡ n *ℤ m → ((u *ℤ m) ≤ℤ (w *ℤ l)) ↔ ((u *ℤ k) ≤ℤ (n *ℤ l))
greatest_iff n k w m u l p q e =
    crossed (u *ℤ m) (w *ℤ l) (u *ℤ k) (n *ℤ l) k m p q
    (mul_swap u m k)
    (mul_swap w l k ∙ ap (λ z. z *ℤ l) e ∙ mul_swap n m l)

-- ---- with a sense

negated_le : (a b x y : ℤ) → ((a *ℤ b) ≤ℤ (x *ℤ y)) ↔ ((neg_ℤ x *ℤ y) ≤ℤ (neg_ℤ a *ℤ b))
negated_le a b x y = (
  λ h. omega (arith, ints, negated_product a b, negated_product x y, h),
  λ h. omega (arith, ints, negated_product a b, negated_product x y, h),
)

negated_lt : (l n m : ℤ) → ((l *ℤ pos 1) <ℤ (neg_ℤ n *ℤ m)) ↔ ((n *ℤ m) <ℤ (neg_ℤ l *ℤ pos 1))
negated_lt l n m = (
  λ h. omega (arith, ints, negated_product n m, h),
  λ h. omega (arith, ints, negated_product n m, h),
)

-- a cost w / m that is not lower than l / k, where that one with its sign is the value, is not better by its fraction
not_better_iff : (s : Sense) (l k w m : ℤ) (value f : Fraction) → pos 1 ≤ℤ value.den → pos 1 ≤ℤ k → pos 1 ≤ℤ m → pos 1 ≤ℤ f.den → IsOver (signed s w) m f → signed s l *ℤ value.den ≡ value.num *ℤ k
    → ((l *ℤ m) ≤ℤ (w *ℤ k)) ↔ IsNotBetter s f value
not_better_iff Min l k w m value f pv pk pm pf over e =
    let least = least_iff value.num value.den l k w m pv pk e in
    let iff = at_most_over w m value f pf pm over in
    (λ h. iff.1 (least.0 h), λ h. least.1 (iff.0 h))
not_better_iff Max l k w m value f pv pk pm pf over e =
    let turned = negated_le l m w k in
    let greatest = greatest_iff value.num value.den (neg_ℤ l) k (neg_ℤ w) m pv pk e in
    let iff = over_at_most (neg_ℤ w) m value f pf pm over in
    (λ h. iff.1 (greatest.0 (turned.0 h)), λ h. turned.1 (greatest.1 (iff.0 h)))

better_iff : (s : Sense) (w m bound : ℤ) (f : Fraction) → pos 1 ≤ℤ f.den → pos 1 ≤ℤ m → IsOver (signed s w) m f → ((w *ℤ pos 1) <ℤ (signed s bound *ℤ m)) ↔ IsBetter s f (whole bound)
better_iff Min w m bound f pf pm over = let iff = below_over w m (whole bound) f pf pm over in (iff.1, iff.0)
better_iff Max w m bound f pf pm over =
    let turned = negated_lt w bound m in
    let iff = over_below (neg_ℤ w) m (whole bound) f pf pm over in
    (λ h. iff.1 (turned.0 h), λ h. turned.1 (iff.0 h))

-- ---- offset and scale keep the order of costs

spread : (c o d s e : ℤ) → (c +ℤ (o *ℤ d)) *ℤ (s *ℤ e) ≡ ((c *ℤ e) *ℤ s) +ℤ ((o *ℤ s) *ℤ (d *ℤ e))
spread c o d s e =
    mul_add_right (s *ℤ e) c (o *ℤ d)
    ∙ ap (λ z. z +ℤ ((o *ℤ d) *ℤ (s *ℤ e))) (ap (λ z. c *ℤ z) (mul_comm s e) ∙ sym (mul_assoc c e s))
    ∙ ap (λ z. ((c *ℤ e) *ℤ s) +ℤ z) (mul_shuffle o d s e)

moved_le : (x y t a b : ℤ) → a ≡ x +ℤ t → b ≡ y +ℤ t → (x ≤ℤ y) ↔ (a ≤ℤ b)
moved_le x y t a b e f = (λ h. omega (arith, ints), λ h. omega (arith, ints))

costs_iff : (c e o d b s : ℤ) → pos 1 ≤ℤ s → ((c *ℤ b) ≤ℤ (e *ℤ d)) ↔ (((c +ℤ (o *ℤ d)) *ℤ (s *ℤ b)) ≤ℤ ((e +ℤ (o *ℤ b)) *ℤ (s *ℤ d)))
costs_iff c e o d b s some =
    let t = (o *ℤ s) *ℤ (d *ℤ b) in
    let l = spread c o d s b in
    let r = spread e o b s d ∙ ap (λ z. ((e *ℤ d) *ℤ s) +ℤ ((o *ℤ s) *ℤ z)) (mul_comm b d) in
    let iff = moved_le ((c *ℤ b) *ℤ s) ((e *ℤ d) *ℤ s) t ((c +ℤ (o *ℤ d)) *ℤ (s *ℤ b)) ((e +ℤ (o *ℤ b)) *ℤ (s *ℤ d)) l r in (
      λ h. iff.0 (factor_le (c *ℤ b) (e *ℤ d) s some h),
      λ h. cancel_le (c *ℤ b) (e *ℤ d) s some (iff.1 h),
    )

-- ---- optimal

abbrev scaled : (d : Deck) → Point (length d.columns) → ℤ
scaled d p = (case_of_deck d).scale *ℤ pos p.d

abbrev NoLower : (d : Deck) → Point (length d.columns) → Type 0
NoLower d p = (q : Point (length d.columns)) → IsFeasible (case_of_deck d) q → IsLower (case_of_deck d) q p → ⊥

-- the cost with the offset, with its sign, is the value
abbrev HasCost : (d : Deck) → Point (length d.columns) → Fraction → Type 0
HasCost d p value = signed d.sense (lifted d p) *ℤ value.den ≡ value.num *ℤ scaled d p

-- where p has the value, a cost that is not lower is no better value
order_iff : (d : Deck) (p q : Point (length d.columns)) (value : Fraction) → IsDeck d → pos 1 ≤ℤ value.den → HasCost d p value → ((cost_at (case_of_deck d) p *ℤ pos q.d) ≤ℤ (cost_at (case_of_deck d) q *ℤ pos p.d)) ↔ IsNotBetter d.sense (value_at d q) value
order_iff d p q value h some e =
    let a = case_of_deck d in
    let costs = costs_iff (cost_at a p) (cost_at a q) a.offset (pos p.d) (pos q.d) a.scale (scale_positive d h) in
    let is = objective_is d q h in
    let order = not_better_iff d.sense (lifted d p) (scaled d p) (lifted d q) (scaled d q) value (value_at d q) some (objective_is d p h).common is.common is.positive is.over e in
    (λ k. order.0 (costs.0 k), λ k. costs.1 (order.1 k))

best_of : (d : Deck) (p : Point (length d.columns)) (value : Fraction) → IsDeck d → pos 1 ≤ℤ value.den → HasCost d p value → NoLower d p → (q : Point (length d.columns)) → MeetsDeck d q → IsNotBetter d.sense (value_at d q) value
best_of d p value h some e none q met =
    let a = case_of_deck d in
    let le = by_lt_z (cost_at a q *ℤ pos p.d) (cost_at a p *ℤ pos q.d) (λ lt. absurd (none q ((feasible_law d q h).1 met) lt)) (λ other. other) in
    (order_iff d p q value h some e).0 le

no_lower : (d : Deck) (p : Point (length d.columns)) (value : Fraction) → IsDeck d → pos 1 ≤ℤ value.den → HasCost d p value → ((q : Point (length d.columns)) → MeetsDeck d q → IsNotBetter d.sense (value_at d q) value) → NoLower d p
no_lower d p value h some e best q feasible lower =
    let a = case_of_deck d in
    let le = (order_iff d p q value h some e).1 (best q ((feasible_law d q h).0 feasible)) in
    not_both (cost_at a q *ℤ pos p.d) (cost_at a p *ℤ pos q.d) lower le

same_value : (d : Deck) (p : Point (length d.columns)) (value : Fraction) → IsDeck d → HasCost d p value ↔ SameValue (value_at d p) value
same_value d p value h =
    let is = objective_is d p h in
    value_iff (signed d.sense (lifted d p)) (scaled d p) value.num value.den (value_at d p) is.positive is.common is.over

positive_nat : (m : ℕ) (z : ℤ) → pos m ≡ z → 0 < m → pos 1 ≤ℤ z
positive_nat m z e h = subst (λ y. pos 1 ≤ℤ y) e (omega (arith, ints, h))

optimal_to : (d : Deck) (value : Fraction) → IsDeck d → IsTrueOf (case_of_deck d) (Optimal value) → IsBestValue d value
optimal_to d value h k =
    let p = k.2.0 in
    let some = positive_nat k.0 value.den k.1 k.2.1 in
    let e : HasCost d p value = ap (λ z. signed d.sense (lifted d p) *ℤ z) (sym k.1) ∙ k.2.3 in
    record {
      positive = some;
      point = p;
      met = (feasible_law d p h).0 k.2.2;
      same = (same_value d p value h).0 e;
      best = best_of d p value h some e k.2.4;
    }

optimal_from : (d : Deck) (value : Fraction) → IsDeck d → IsBestValue d value → IsTrueOf (case_of_deck d) (Optimal value)
optimal_from d value h k =
    let p = k.point in
    let is = positive_den value.den k.positive in
    let some : 0 < unsigned_abs value.den = omega (arith, ints, k.positive) in
    let e = (same_value d p value h).1 k.same in (
      unsigned_abs value.den,
      sym is,
      (
        p,
        some,
        (feasible_law d p h).1 k.met,
        ap (λ z. signed d.sense (lifted d p) *ℤ z) (sym is) ∙ e,
        no_lower d p value h k.positive e k.best,
      ),
    )

-- ---- unbounded

lt_moved : (c t x : ℤ) → c <ℤ (x +ℤ neg_ℤ t) → ((c +ℤ t) *ℤ pos 1) <ℤ x
lt_moved c t x h = omega (arith, ints)

-- cost below (n s - o) d
below_scaled : (c o d s n : ℤ) → c <ℤ (((n *ℤ s) +ℤ neg_ℤ o) *ℤ d) → ((c +ℤ (o *ℤ d)) *ℤ pos 1) <ℤ (n *ℤ (s *ℤ d))
below_scaled c o d s n h =
    let e : ((n *ℤ s) +ℤ neg_ℤ o) *ℤ d ≡ (n *ℤ (s *ℤ d)) +ℤ neg_ℤ (o *ℤ d) =
    mul_add_right d (n *ℤ s) (neg_ℤ o) ∙ ap (λ z. z +ℤ (neg_ℤ o *ℤ d)) (mul_assoc n s d) ∙ ap (λ z. (n *ℤ (s *ℤ d)) +ℤ z) (negated_product o d) in
    lt_moved c (o *ℤ d) (n *ℤ (s *ℤ d)) (subst (λ z. c <ℤ z) e h)

-- a number at most 0 times one of at least 1
negative_times : (j : ℕ) (s : ℤ) → pos 1 ≤ℤ s → (neg_ℤ (pos j) *ℤ s) ≤ℤ neg_ℤ (pos j)
negative_times j s some =
    let l : (pos j *ℤ pos 1) ≤ℤ (pos j *ℤ s) = mul_le_left (pos j) (pos 1) s (omega (arith, ints)) some in
    let e = negated_product (pos j) s in
    let larger : pos j ≤ℤ (pos j *ℤ s) = omega (arith, ints, l) in
    subst (λ z. z ≤ℤ neg_ℤ (pos j)) (sym e) (lower_of (pos j) (pos j *ℤ s) larger)
  where
    lower_of : (x y : ℤ) → x ≤ℤ y → neg_ℤ y ≤ℤ neg_ℤ x
    lower_of x y h = omega (arith, ints)

lt_chain : (c t y z w : ℤ) → ((c +ℤ t) *ℤ pos 1) <ℤ y → y ≤ℤ z → (z +ℤ neg_ℤ t) ≤ℤ w → c <ℤ w
lt_chain c t y z w h k l = omega (arith, ints)

abbrev far : ℤ → ℤ → ℤ
far b o = neg_ℤ (pos (unsigned_abs b + unsigned_abs o))

far_below : (b o : ℤ) → (far b o +ℤ neg_ℤ o) ≤ℤ b
far_below b o = omega (arith, ints)

below_unscaled : (c o d s b : ℤ) → pos 1 ≤ℤ s → pos 1 ≤ℤ d → ((c +ℤ (o *ℤ d)) *ℤ pos 1) <ℤ (far b o *ℤ (s *ℤ d)) → c <ℤ (b *ℤ d)
below_unscaled c o d s b ps pd h =
    let n = far b o in
    let y : (n *ℤ (s *ℤ d)) ≤ℤ (n *ℤ d) = subst (λ z. z ≤ℤ (n *ℤ d)) (mul_assoc n s d) (factor_le (n *ℤ s) n d pd (negative_times (unsigned_abs b + unsigned_abs o) s ps)) in
    let e : (n +ℤ neg_ℤ o) *ℤ d ≡ (n *ℤ d) +ℤ neg_ℤ (o *ℤ d) = mul_add_right d n (neg_ℤ o) ∙ ap (λ z. (n *ℤ d) +ℤ z) (negated_product o d) in
    let last : ((n *ℤ d) +ℤ neg_ℤ (o *ℤ d)) ≤ℤ (b *ℤ d) = subst (λ z. z ≤ℤ (b *ℤ d)) e (factor_le (n +ℤ neg_ℤ o) b d pd (far_below b o)) in
    lt_chain c (o *ℤ d) (n *ℤ (s *ℤ d)) (n *ℤ d) (b *ℤ d) h y last

unbounded_to : (d : Deck) → IsDeck d → IsUnbounded (case_of_deck d) → IsTrueOfDeck d Unbounded
unbounded_to d h k bound =
    let a = case_of_deck d in
    let found = k ((signed d.sense bound *ℤ a.scale) +ℤ neg_ℤ a.offset) in
    let p = found.0 in
    let is = objective_is d p h in
    (p, (feasible_law d p h).0 found.1, (better_iff d.sense (lifted d p) (scaled d p) bound (value_at d p) is.positive is.common is.over).0 (below_scaled (cost_at a p) a.offset (pos p.d) a.scale (signed d.sense bound) found.2))

unbounded_from : (d : Deck) → IsDeck d → IsTrueOfDeck d Unbounded → IsUnbounded (case_of_deck d)
unbounded_from d h k bound =
    let a = case_of_deck d in
    let found = k (signed d.sense (far bound a.offset)) in
    let p = found.0 in
    let is = objective_is d p h in
    let some : pos 1 ≤ℤ pos p.d = omega (arith, ints, p.positive) in
    let better = (better_iff d.sense (lifted d p) (scaled d p) (signed d.sense (far bound a.offset)) (value_at d p) is.positive is.common is.over).1 found.2 in
    let below : (lifted d p *ℤ pos 1) <ℤ (far bound a.offset *ℤ scaled d p) = subst (λ z. (lifted d p *ℤ pos 1) <ℤ (z *ℤ scaled d p)) (signed_twice d.sense (far bound a.offset)) better in
    (p, (feasible_law d p h).1 found.1, below_unscaled (cost_at a p) a.offset (pos p.d) a.scale bound (scale_positive d h) some below)

-- ---- the laws

of_deck : (d : Deck) (v : Verdict) → IsDeck d → IsTrueOf (case_of_deck d) v ↔ IsTrueOfDeck d v
of_deck d (Optimal value) h = (optimal_to d value h, optimal_from d value h)
of_deck d Infeasible h = (λ none p met. none p ((feasible_law d p h).1 met), λ none p feasible. none p ((feasible_law d p h).0 feasible))
of_deck d Unbounded h = (unbounded_to d h, unbounded_from d h)

pub verdict_law : (d : Deck) (a : Instance) (v : Verdict) → IsDeck d → HasCase d a → IsTrueOf a v ↔ IsTrueOfDeck d v
verdict_law d a v h case = subst (λ (x : Instance). IsTrueOf x v ↔ IsTrueOfDeck d v) (sym case.made) (of_deck d v h)

pub limits_law : (d : Deck) (a : Instance) → IsDeck d → HasCase d a → IsCase a
limits_law d a h case = subst IsCase (sym case.made) (is_case d h case.narrow case.few)

-- ---- without pairs

relaxed_keeps : (d : Deck) → IsDeck d → IsDeck (relaxed_deck d)
relaxed_keeps d h = record {
  few_rows = h.few_rows;
  few_columns = h.few_columns;
  few_entries = h.few_entries;
  few_pairs = omega arith;
  objective = h.objective;
  others = h.others;
  rows = h.rows;
  columns = h.columns;
  entries_named = h.entries_named;
  entry_values = h.entry_values;
  ascending = h.ascending;
  pairs_named = All-nil (λ p. NamesQuantity (relaxed_deck d) p.a × NamesQuantity (relaxed_deck d) p.b);
  groups_named = All-nil (λ (g : GroupLine). All (NamesQuantity (relaxed_deck d)) g.items);
}

relaxed_case : (d : Deck) (a : Instance) → HasCase d a → HasCase (relaxed_deck d) (relaxed a)
relaxed_case d a case = record { narrow = case.narrow; few = case.few; made = ap relaxed case.made }

pub relaxed_law : (d : Deck) (a : Instance) (v : Verdict) → IsDeck d → HasCase d a → IsTrueOf (relaxed a) v ↔ IsTrueOfDeck (relaxed_deck d) v
relaxed_law d a v h case = verdict_law (relaxed_deck d) (relaxed a) v (relaxed_keeps d h) (relaxed_case d a case)
