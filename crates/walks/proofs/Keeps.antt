-- What a pivot keeps: constraints of earlier stages stay above 0, and the stage's row gets a better value.
use Rattle.std.proofs.Common.{ℕ, ◌<◌, ◌≤◌, ◌≡◌, ◌∙◌, refl, sym, ap, subst, arith, ℤ, pos, ◌+ℤ◌, ◌-ℤ◌, ◌*ℤ◌, neg_ℤ, ◌<ℤ◌, List, [], ◌∷◌, length, Bool, true, false, inl, inr}
use Rattle.std.specs.Prelude.{unsigned_abs, int_lt, IsTrue}
use Rattle.std.specs.List.{AllByRecursion}
use Rattle.std.proofs.lemmas.Int.{ints, by_lt_z}
use Rattle.std.proofs.lemmas.List.{get_or-set_same, get_or_past, length-set}
use Rattle.lpcc_case.proofs.Shares.{share_at}
use Rattle.std.proofs.Math.IntN.{zero-*ℤ, *ℤ-zero}
use Rattle.lp_base.proofs.Ring.{mul_add_left, mul_assoc, mul_comm}
use Rattle.nogoods.specs.declared.choice.Choice.{Choice}
use Rattle.lpcc_case.specs.declared.form.Form.{Form}
use Rattle.lpcc_case.specs.declared.form.Form.TheVariants.{Col, Con, Cost}
use Rattle.lpcc_case.specs.Instance.{Instance, no_constraint}
use Rattle.lpcc_case.specs.Points.{coefficient}
use Rattle.dict.specs.Equations.{Equation, equation}
use Rattle.dict.specs.Exchanges.{turn}
use Rattle.dict.specs.Dictionaries.{Dictionary, row_at, form_at, entry_at}
use Rattle.dict.specs.Forms.{IsRowOf, AreIndependent, affine_of, affine_at}
use Rattle.dict.proofs.Dictionaries.{nonbasic_other, nonbasic_here, basic_other}
use Rattle.dict.proofs.Pivots.{by_eq}
use Rattle.dict.proofs.SparseSums.{terms_below}
use Rattle.orders.specs.Order.{IsAbove, IsBelow, IsZero, IsLess}
use Rattle.orders.proofs.Orders.{above_same, above_times, above_from_times, above_sum, above_cases, by_lt}
use Rattle.walks.specs.Values.{part, parts, value, unit, is_fixed, is_equation, is_chosen}
use Rattle.walks.specs.Bases.{AreAbove}
use Rattle.walks.specs.Duals.{Helps}
use Rattle.walks.specs.Steps.{IsSized, IsExchanged, IsPivot, IsStageRow, IsLeaving, rate, distance, goes_down, is_last}
use Rattle.walks.proofs.Changes.{IsSwapped, changed_part, grows, times_less, times_turn, less_times, turn_around}
use Rattle.walks.proofs.Unique.{value_not_zero}

-- ---- the lists of forms

swapped : (a : Instance) (row col : ℕ) (d e : Dictionary) → col < length d.nonbasic → IsExchanged a row col d e → IsSwapped col d.nonbasic e.nonbasic (form_at d.basic row)
swapped a row col d e h is = record {
  here = ap (λ fs. form_at fs col) is.nonbasic ∙ nonbasic_here row col d h;
  other = λ j other. ap (λ fs. form_at fs j) is.nonbasic ∙ nonbasic_other row col j d other;
}

pub basic_stays : (a : Instance) (row col i : ℕ) (d e : Dictionary) → IsExchanged a row col d e → (i ≡ row → ⊥) → form_at e.basic i ≡ form_at d.basic i
basic_stays a row col i d e is other = ap (λ fs. form_at fs i) is.basic ∙ basic_other row col i d other

pub basic_enters : (a : Instance) (row col : ℕ) (d e : Dictionary) → IsExchanged a row col d e → row < length d.basic → form_at e.basic row ≡ form_at d.nonbasic col
basic_enters a row col d e is h = ap (λ fs. form_at fs row) is.basic ∙ get_or-set_same d.basic row (form_at d.nonbasic col) Cost h

pub rows_same : (a : Instance) (row col : ℕ) (d e : Dictionary) → IsSized a d → IsExchanged a row col d e → length e.rows ≡ length d.rows
rows_same a row col d e sized is = sym is.sized.size ∙ ap length is.basic ∙ length-set d.basic row (form_at d.nonbasic col) ∙ sized.size

pub places_same : (a : Instance) (row col : ℕ) (d e : Dictionary) → IsExchanged a row col d e → length e.nonbasic ≡ length d.nonbasic
places_same a row col d e is = ap length is.nonbasic ∙ length-set d.nonbasic col (form_at d.basic row)

pub below_of : (a : Instance) (d : Dictionary) (i : ℕ) → IsSized a d → i < length d.rows → AllByRecursion (λ t. t.0 < length d.nonbasic) (row_at d.rows i).entries
below_of a d i sized h = terms_below sized.bound 0 (length d.nonbasic) (row_at d.rows i).entries (sized.rows i h).entries

-- the change of the value of a form f whose row before was q, after the exchange
change : (a : Instance) (tight : List Choice) (row col i : ℕ) (d e : Dictionary) (q : Equation) (f : Form) (p : ℕ) → IsSized a d → IsExchanged a row col d e → row < length d.rows → col < length d.nonbasic → i < length d.rows → form_at e.basic i ≡ f → AllByRecursion (λ t. t.0 < length d.nonbasic) q.entries → IsRowOf q (affine_of a f) (affine_at a d.nonbasic) → value a tight e i p *ℤ (entry_at d row col *ℤ q.den) ≡ ((entry_at d row col *ℤ part a tight q d.nonbasic f p) -ℤ (coefficient q.entries col *ℤ value a tight d row p)) *ℤ (row_at e.rows i).den
change a tight row col i d e q f p sized is hr hc hi form below holds =
    let inside : i < length e.rows = omega (arith, hi, rows_same a row col d e sized is) in
    let s = row_at e.rows i in
    let n = length d.nonbasic in
    let same = places_same a row col d e is in
    let hs : IsRowOf s (affine_of a f) (affine_at a e.nonbasic) = subst (λ (g : Form). IsRowOf s (affine_of a g) (affine_at a e.nonbasic)) form (λ x one. is.sized.of.identities x one i inside) in
    let independent : AreIndependent n (affine_at a e.nonbasic) = subst (λ (k : ℕ). AreIndependent k (affine_at a e.nonbasic)) same is.sized.of.independent in
    let bs : AllByRecursion (λ t. t.0 < n) s.entries = subst (λ (k : ℕ). AllByRecursion (λ t. t.0 < k) s.entries) same (below_of a e i is.sized inside) in
    ap (λ g. part a tight s e.nonbasic g p *ℤ (entry_at d row col *ℤ q.den)) form
    ∙ changed_part a tight col q (row_at d.rows row) s d.nonbasic e.nonbasic f (form_at d.basic row) n p hc (swapped a row col d e hc is) independent below (below_of a d row sized hr) bs holds (λ x one. sized.of.identities x one row hr) hs

-- ---- signs

turn_size : (down : Bool) (z : ℤ) → turn down z <ℤ pos 0 → neg_ℤ (turn down z) ≡ pos (unsigned_abs z)
turn_size true z h = omega (arith, ints, h)
turn_size false z h = omega (arith, ints, h)

turn_size_up : (down : Bool) (z : ℤ) → pos 0 <ℤ turn down z → turn down z ≡ pos (unsigned_abs z)
turn_size_up true z h = omega (arith, ints, h)
turn_size_up false z h = omega (arith, ints, h)

rises_true : (z : ℤ) → pos 0 <ℤ z → int_lt (pos 0) z ≡ true
rises_true z h = grind (arith, ints)

rises_false : (z : ℤ) → z <ℤ pos 0 → int_lt (pos 0) z ≡ false
rises_false z h = grind (arith, ints)

-- the change in sizes: cr is the entry of the row that leaves, ci of the row that is looked at
in_size_down : (down : Bool) (cr ci ds de v w t : ℤ) → w *ℤ (cr *ℤ ds) ≡ ((cr *ℤ v) -ℤ (ci *ℤ t)) *ℤ de → neg_ℤ (turn down cr) *ℤ (ds *ℤ w) ≡ de *ℤ ((neg_ℤ (turn down cr) *ℤ v) +ℤ (turn down ci *ℤ t))
in_size_down down cr ci ds de v w t h =
    let l = Rattle.walks.proofs.Changes.lifted down false cr ci ds de v w t h in
    let k = neg_ℤ (turn down cr) in
    omega (arith, ints, l, times_less k (ds *ℤ w) (de *ℤ v), turn_around k de v, mul_assoc de (turn down ci) t, mul_add_left de (k *ℤ v) (turn down ci *ℤ t))

negated : (cr ci v t de : ℤ) → ((neg_ℤ cr *ℤ v) -ℤ (ci *ℤ neg_ℤ t)) *ℤ de ≡ neg_ℤ (((cr *ℤ v) -ℤ (ci *ℤ t)) *ℤ de)
negated cr ci v t de =
    let a = Rattle.dict.proofs.Enters.neg_times cr v in
    let b : ci *ℤ neg_ℤ t ≡ neg_ℤ (ci *ℤ t) = mul_comm ci (neg_ℤ t) ∙ Rattle.dict.proofs.Enters.neg_times t ci ∙ ap neg_ℤ (mul_comm t ci) in
    let c : (neg_ℤ cr *ℤ v) -ℤ (ci *ℤ neg_ℤ t) ≡ neg_ℤ ((cr *ℤ v) -ℤ (ci *ℤ t)) = omega (arith, ints, a, b) in
    ap (λ z. z *ℤ de) c ∙ Rattle.dict.proofs.Enters.neg_times ((cr *ℤ v) -ℤ (ci *ℤ t)) de

in_size_up : (down : Bool) (cr ci ds de v w t : ℤ) → w *ℤ (cr *ℤ ds) ≡ ((cr *ℤ v) -ℤ (ci *ℤ t)) *ℤ de → turn down cr *ℤ (ds *ℤ w) ≡ de *ℤ ((turn down cr *ℤ v) +ℤ (turn down ci *ℤ neg_ℤ t))
in_size_up down cr ci ds de v w t h =
    let left : w *ℤ (neg_ℤ cr *ℤ ds) ≡ neg_ℤ (w *ℤ (cr *ℤ ds)) = ap (λ z. w *ℤ z) (Rattle.dict.proofs.Enters.neg_times cr ds) ∙ mul_comm w (neg_ℤ (cr *ℤ ds)) ∙ Rattle.dict.proofs.Enters.neg_times (cr *ℤ ds) w ∙ ap neg_ℤ (mul_comm (cr *ℤ ds) w) in
    let h' : w *ℤ (neg_ℤ cr *ℤ ds) ≡ ((neg_ℤ cr *ℤ v) -ℤ (ci *ℤ neg_ℤ t)) *ℤ de = left ∙ ap neg_ℤ h ∙ sym (negated cr ci v t de) in
    let k : neg_ℤ (turn down (neg_ℤ cr)) ≡ turn down cr = turned down cr in
    subst (λ (z : ℤ). z *ℤ (ds *ℤ w) ≡ de *ℤ ((z *ℤ v) +ℤ (turn down ci *ℤ neg_ℤ t))) k (in_size_down down (neg_ℤ cr) ci ds de v w (neg_ℤ t) h')
  where
    turned : (b : Bool) (z : ℤ) → neg_ℤ (turn b (neg_ℤ z)) ≡ turn b z
    turned true z = omega (arith, ints)
    turned false z = omega (arith, ints)

-- how far the leaving form is from 0 is above 0, and what the exchange does to any row is said by it
pub record Moves (n : ℕ) (size rate ds de : ℤ) (v w far : ℕ → ℤ) : Type 0 where
  pub positive : pos 0 <ℤ size
  pub above : IsAbove n far
  pub change : (p : ℕ) → p < n → size *ℤ (ds *ℤ w p) ≡ de *ℤ ((size *ℤ v p) +ℤ (rate *ℤ far p))

-- a row that rises or stays keeps above 0
stays_above : (n : ℕ) (size rate ds de : ℤ) (v w far : ℕ → ℤ) → pos 0 <ℤ ds → pos 0 <ℤ de → Moves n size rate ds de v w far → IsAbove n (λ p. (size *ℤ v p) +ℤ (rate *ℤ far p)) → IsAbove n w
stays_above n size rate ds de v w far hs he m h =
    above_from_times n ds w hs
    (above_from_times n size (λ p. ds *ℤ w p) m.positive
    (above_same n (λ p. de *ℤ ((size *ℤ v p) +ℤ (rate *ℤ far p))) (λ p. size *ℤ (ds *ℤ w p)) (λ p lt. sym (m.change p lt)) (above_times n de (λ p. (size *ℤ v p) +ℤ (rate *ℤ far p)) he h)))

zero_of_times : (k z : ℤ) → pos 0 <ℤ k → k *ℤ z ≡ pos 0 → z ≡ pos 0
zero_of_times k z hk e =
    let r : z *ℤ pos (unsigned_abs k) ≡ pos 0 *ℤ pos (unsigned_abs k) = ap (λ y. z *ℤ y) (sym (Rattle.dict.proofs.Machine.is_pos k hk)) ∙ mul_comm z k ∙ e ∙ sym (zero-*ℤ (pos (unsigned_abs k))) in
    Rattle.lp_base.proofs.Ring.mul_cancel_right (unsigned_abs k) z (pos 0) (omega (arith, ints, hk)) r

pub keeps_above : (n : ℕ) (size rate ds de : ℤ) (v w far : ℕ → ℤ) → pos 0 <ℤ ds → pos 0 <ℤ de → Moves n size rate ds de v w far → IsAbove n v → (IsZero n w → ⊥) → (rate <ℤ pos 0 → IsAbove n (λ p. (neg_ℤ rate *ℤ far p) -ℤ (size *ℤ v p)) → ⊥) → IsAbove n w
keeps_above n size rate ds de v w far hs he m above some late =
    by_lt_z rate (pos 0)
    (λ falls.
    elim (above_cases n (λ p. (size *ℤ v p) +ℤ (rate *ℤ far p))) [
      | inl up ↦ stays_above n size rate ds de v w far hs he m up
      | inr other ↦ elim other [
        | inl down ↦ absurd (late falls (above_same n (λ p. neg_ℤ ((size *ℤ v p) +ℤ (rate *ℤ far p))) (λ p. (neg_ℤ rate *ℤ far p) -ℤ (size *ℤ v p)) (λ p lt. omega (arith, ints, Rattle.dict.proofs.Enters.neg_times rate (far p))) down))
        | inr none ↦ absurd (some (λ p lt. zero_of_times ds (w p) hs (zero_of_times size (ds *ℤ w p) m.positive (m.change p lt ∙ ap (λ z. de *ℤ z) (none p lt) ∙ *ℤ-zero de))))
      ]
    ])
    (λ not_falls.
    by_lt_z (pos 0) rate
    (λ rises. stays_above n size rate ds de v w far hs he m (above_sum n (λ p. size *ℤ v p) (λ p. rate *ℤ far p) (above_times n size v m.positive above) (above_times n rate far rises m.above)))
    (λ not_rises.
    let none : rate ≡ pos 0 = omega (arith, ints, not_falls, not_rises) in
    stays_above n size rate ds de v w far hs he m
    (above_same n (λ p. size *ℤ v p) (λ p. (size *ℤ v p) +ℤ (rate *ℤ far p)) (λ p lt. omega (arith, ints, ap (λ z. z *ℤ far p) none ∙ zero-*ℤ (far p))) (above_times n size v m.positive above))))

-- ---- a pivot

equation_past : (a : Instance) (tight : List Choice) (k : ℕ) → length a.constraints ≤ k → is_fixed a tight k ≡ true
equation_past a tight k past = ap (λ c. Rattle.std.specs.Prelude.◌||◌ (is_equation c.kind) (is_chosen a tight k)) (get_or_past a.constraints k no_constraint past)

pub free_inside : (a : Instance) (tight : List Choice) (k : ℕ) → is_fixed a tight k ≡ false → k < length a.constraints
free_inside a tight k free = by_lt k (length a.constraints) (λ lt. lt) (λ past. absurd (cc (equation_past a tight k past, free)))

below_is : (n : ℕ) (b : Bool) (v : ℕ → ℤ) → b ≡ true → IsBelow n v → IsAbove n (λ p. turn b (v p))
below_is n true v e h = h
below_is n false v e h = absurd (cc)

above_is : (n : ℕ) (b : Bool) (v : ℕ → ℤ) → b ≡ false → IsAbove n v → IsAbove n (λ p. turn b (v p))
above_is n false v e h = h
above_is n true v e h = absurd (cc)

far_down : (b : Bool) (z : ℤ) → b ≡ false → turn b z ≡ z
far_down false z e = refl
far_down true z e = absurd (cc)

far_up : (b : Bool) (z : ℤ) → b ≡ true → turn b z ≡ neg_ℤ z
far_up true z e = refl
far_up false z e = absurd (cc)

-- how any row moves by the pivot
pivot_moves : (a : Instance) (tight : List Choice) (stage goal_row row col i : ℕ) (down : Bool) (d e : Dictionary) (q : Equation) (f : Form) → IsSized a d → IsExchanged a row col d e → col < length d.nonbasic → IsStageRow a tight stage d goal_row → IsLeaving a tight stage d goal_row col down row → AreAbove a tight stage d → i < length d.rows → form_at e.basic i ≡ f → AllByRecursion (λ t. t.0 < length d.nonbasic) q.entries → IsRowOf q (affine_of a f) (affine_at a d.nonbasic) → Moves (parts a) (pos (unsigned_abs (entry_at d row col))) (turn down (coefficient q.entries col)) q.den (row_at e.rows i).den (part a tight q d.nonbasic f) (value a tight e i) (distance a tight d col down row)
pivot_moves a tight stage goal_row row col i down d e q f sized is hc stands leaves above hi form below holds =
    let cr = entry_at d row col in
    let ci = coefficient q.entries col in
    let t : ℕ → ℤ = value a tight d row in
    let b = int_lt (pos 0) (turn down cr) in
    let ch : (p : ℕ) → value a tight e i p *ℤ (cr *ℤ q.den) ≡ ((cr *ℤ part a tight q d.nonbasic f p) -ℤ (ci *ℤ t p)) *ℤ (row_at e.rows i).den = λ p. change a tight row col i d e q f p sized is leaves.within hc hi form below holds in
    elim leaves.blocks.goes [
      | inl earlier ↦
          let size : neg_ℤ (turn down cr) ≡ pos (unsigned_abs cr) = turn_size down cr earlier.1 in
          let no = rises_false (turn down cr) earlier.1 in
          record {
            positive = omega (arith, ints, size, earlier.1);
            above = above_is (parts a) b t no (above row leaves.blocks.constraint leaves.within earlier.0 leaves.blocks.form leaves.blocks.free);
            change = λ p lt. subst (λ (z : ℤ). z *ℤ (q.den *ℤ value a tight e i p) ≡ (row_at e.rows i).den *ℤ ((z *ℤ part a tight q d.nonbasic f p) +ℤ (turn down ci *ℤ distance a tight d col down row p))) size
                (subst (λ (y : ℤ). neg_ℤ (turn down cr) *ℤ (q.den *ℤ value a tight e i p) ≡ (row_at e.rows i).den *ℤ ((neg_ℤ (turn down cr) *ℤ part a tight q d.nonbasic f p) +ℤ (turn down ci *ℤ y))) (sym (far_down b (t p) no))
                (in_size_down down cr ci q.den (row_at e.rows i).den (part a tight q d.nonbasic f p) (value a tight e i p) (t p) (ch p)));
          }
      | inr own ↦
          let size : turn down cr ≡ pos (unsigned_abs cr) = turn_size_up down cr own.2 in
          let yes = rises_true (turn down cr) own.2 in
          let inside : stage < length a.constraints = free_inside a tight stage (subst (λ (k : ℕ). is_fixed a tight k ≡ false) own.1 leaves.blocks.free) in
          let low : IsBelow (parts a) t = subst (λ (r : ℕ). IsBelow (parts a) (value a tight d r)) (sym own.0) (stands.below inside) in
          record {
            positive = omega (arith, ints, size, own.2);
            above = below_is (parts a) b t yes low;
            change = λ p lt. subst (λ (z : ℤ). z *ℤ (q.den *ℤ value a tight e i p) ≡ (row_at e.rows i).den *ℤ ((z *ℤ part a tight q d.nonbasic f p) +ℤ (turn down ci *ℤ distance a tight d col down row p))) size
                (subst (λ (y : ℤ). turn down cr *ℤ (q.den *ℤ value a tight e i p) ≡ (row_at e.rows i).den *ℤ ((turn down cr *ℤ part a tight q d.nonbasic f p) +ℤ (turn down ci *ℤ y))) (sym (far_up b (t p) yes))
                (in_size_up down cr ci q.den (row_at e.rows i).den (part a tight q d.nonbasic f p) (value a tight e i p) (t p) (ch p)));
          }
    ]

-- a row of an earlier constraint that stays basic
other_above : (a : Instance) (tight : List Choice) (stage goal_row row col i k : ℕ) (down : Bool) (d e : Dictionary) → IsSized a d → IsExchanged a row col d e → col < length d.nonbasic → IsStageRow a tight stage d goal_row → IsLeaving a tight stage d goal_row col down row → AreAbove a tight stage d → i < length d.rows → (i ≡ row → ⊥) → k < stage → form_at e.basic i ≡ Con k → is_fixed a tight k ≡ false → IsAbove (parts a) (value a tight e i)
other_above a tight stage goal_row row col i k down d e sized is hc stands leaves above hi other lt form free =
    let q = row_at d.rows i in
    let before : form_at d.basic i ≡ Con k = sym (basic_stays a row col i d e is other) ∙ form in
    let inside : i < length e.rows = omega (arith, hi, rows_same a row col d e sized is) in
    let moves = pivot_moves a tight stage goal_row row col i down d e q (form_at d.basic i) sized is hc stands leaves above hi (basic_stays a row col i d e is other) (below_of a d i sized hi) (λ x one. sized.of.identities x one i hi) in
    keeps_above (parts a) (pos (unsigned_abs (entry_at d row col))) (turn down (coefficient q.entries col)) q.den (row_at e.rows i).den (value a tight d i) (value a tight e i) (distance a tight d col down row) (sized.rows i hi).positive (is.sized.rows i inside).positive moves (above i k hi lt before free) (value_not_zero a tight e i k is.sized inside (free_inside a tight k free) form free)
    (λ falls late.
    let no = rises_false (turn down (coefficient q.entries col)) falls in
    leaves.soonest i hi (record { constraint = k; form = before; free = free; goes = inl (lt, falls) })
    (above_same (parts a) (λ p. (neg_ℤ (turn down (coefficient q.entries col)) *ℤ distance a tight d col down row p) -ℤ (pos (unsigned_abs (entry_at d row col)) *ℤ value a tight d i p)) (λ p. (pos (unsigned_abs (entry_at d i col)) *ℤ distance a tight d col down row p) -ℤ (pos (unsigned_abs (entry_at d row col)) *ℤ distance a tight d col down i p))
    (λ p h. ap (λ z. (z *ℤ distance a tight d col down row p) -ℤ (pos (unsigned_abs (entry_at d row col)) *ℤ value a tight d i p)) (turn_size down (coefficient q.entries col) falls) ∙ ap (λ z. (pos (unsigned_abs (entry_at d i col)) *ℤ distance a tight d col down row p) -ℤ (pos (unsigned_abs (entry_at d row col)) *ℤ z)) (sym (far_down (int_lt (pos 0) (turn down (coefficient q.entries col))) (value a tight d i p) no)))
    late))

-- the form that enters
unit_row : ℕ → Equation
unit_row col = equation (pos 1) (pos 0) ((col, pos 1) ∷ [])

unit_coefficient : (col : ℕ) → coefficient (unit_row col).entries col ≡ pos 1
unfolding unit_row
unit_coefficient col = omega (arith, ints, share_at col (pos 1))

unit_part : (a : Instance) (tight : List Choice) (forms : List Form) (col p : ℕ) → part a tight (unit_row col) forms (form_at forms col) p ≡ pos 0
unfolding unit_row
unit_part a tight forms col p = omega (arith, ints, zero-*ℤ (unit p))

entering_above : (a : Instance) (tight : List Choice) (stage goal_row row col : ℕ) (down : Bool) (d e : Dictionary) → IsSized a d → IsExchanged a row col d e → col < length d.nonbasic → IsStageRow a tight stage d goal_row → IsLeaving a tight stage d goal_row col down row → AreAbove a tight stage d → down ≡ false → IsAbove (parts a) (value a tight e row)
unfolding unit_row
entering_above a tight stage goal_row row col down d e sized is hc stands leaves above up =
    let f = form_at d.nonbasic col in
    let inside : row < length e.rows = omega (arith, leaves.within, rows_same a row col d e sized is) in
    let moves = pivot_moves a tight stage goal_row row col row down d e (unit_row col) f sized is hc stands leaves above leaves.within (basic_enters a row col d e is (omega (arith, leaves.within, sized.size))) (hc, tt) (λ x one. omega (arith, ints, zero-*ℤ one)) in
    let one : turn down (coefficient (unit_row col).entries col) ≡ pos 1 = ap (λ b. turn b (coefficient (unit_row col).entries col)) up ∙ unit_coefficient col in
    stays_above (parts a) (pos (unsigned_abs (entry_at d row col))) (turn down (coefficient (unit_row col).entries col)) (pos 1) (row_at e.rows row).den (part a tight (unit_row col) d.nonbasic f) (value a tight e row) (distance a tight d col down row) (omega (arith, ints)) (is.sized.rows row inside).positive moves
    (above_same (parts a) (distance a tight d col down row) (λ p. (pos (unsigned_abs (entry_at d row col)) *ℤ part a tight (unit_row col) d.nonbasic f p) +ℤ (turn down (coefficient (unit_row col).entries col) *ℤ distance a tight d col down row p))
    (λ p h. omega (arith, ints, ap (λ z. pos (unsigned_abs (entry_at d row col)) *ℤ z) (unit_part a tight d.nonbasic col p) ∙ *ℤ-zero (pos (unsigned_abs (entry_at d row col))), ap (λ z. z *ℤ distance a tight d col down row p) one))
    moves.above)

goes_up : (a : Instance) (tight : List Choice) (falls : Bool) (f : Form) (k : ℕ) (z : ℤ) → Helps a tight falls f z → f ≡ Con k → int_lt (turn falls z) (pos 0) ≡ false
goes_up a tight falls (Con l) k z helps e = not_negative (turn falls z) helps.1
  where
    not_negative : (y : ℤ) → pos 0 <ℤ y → int_lt y (pos 0) ≡ false
    not_negative y h = grind (arith, ints)
goes_up a tight falls (Col j) k z helps e = absurd (cc)
goes_up a tight falls Cost k z helps e = absurd helps

-- a pivot keeps the constraints of earlier stages above 0
pub pivot_keeps_above : (a : Instance) (tight : List Choice) (stage row col : ℕ) (d e : Dictionary) → IsSized a d → IsPivot a tight stage d row col → IsExchanged a row col d e → AreAbove a tight stage d → AreAbove a tight stage e
pivot_keeps_above a tight stage row col d e sized pivot is above i k hi lt form free =
    let inside : i < length d.rows = omega (arith, hi, rows_same a row col d e sized is) in
    let down = goes_down a stage d pivot.goal_row col in
    by_eq i row
    (λ here.
    let entered : form_at d.nonbasic col ≡ Con k = sym (basic_enters a row col d e is (omega (arith, pivot.leaves.within, sized.size))) ∙ ap (λ n. form_at e.basic n) (sym here) ∙ form in
    subst (λ (n : ℕ). IsAbove (parts a) (value a tight e n)) (sym here)
    (entering_above a tight stage pivot.goal_row row col down d e sized is pivot.enters.within pivot.stage_row pivot.leaves above (goes_up a tight (is_last a stage) (form_at d.nonbasic col) k (entry_at d pivot.goal_row col) pivot.enters.holds entered)))
    (λ other. other_above a tight stage pivot.goal_row row col i k down d e sized is pivot.enters.within pivot.stage_row pivot.leaves above inside other lt form free)

-- ---- the stage's row

negative_is : (y : ℤ) → y <ℤ pos 0 → int_lt y (pos 0) ≡ true
negative_is y h = grind (arith, ints)

positive_is : (y : ℤ) → pos 0 <ℤ y → int_lt y (pos 0) ≡ false
positive_is y h = grind (arith, ints)

turned_true : (b : Bool) (y : ℤ) → b ≡ true → y <ℤ pos 0 → pos 0 <ℤ turn b y
turned_true true y e h = omega (arith, ints, h)
turned_true false y e h = absurd (cc)

turned_false : (b : Bool) (y : ℤ) → b ≡ false → pos 0 <ℤ y → pos 0 <ℤ turn b y
turned_false false y e h = h
turned_false true y e h = absurd (cc)

moves_by : (y : ℤ) → (y ≡ pos 0 → ⊥) → pos 0 <ℤ turn (int_lt y (pos 0)) y
moves_by y h =
    by_lt_z y (pos 0) (λ below. turned_true (int_lt y (pos 0)) y (negative_is y below) below)
    (λ not_below. by_lt_z (pos 0) y (λ above. turned_false (int_lt y (pos 0)) y (positive_is y above) above) (λ not_above. absurd (h (omega (arith, ints, not_below, not_above)))))

not_turned : (b : Bool) (z : ℤ) → (z ≡ pos 0 → ⊥) → turn b z ≡ pos 0 → ⊥
not_turned true z h e = h (omega (arith, ints, e))
not_turned false z h e = h e

helps_some : (a : Instance) (tight : List Choice) (falls : Bool) (f : Form) (z : ℤ) → Helps a tight falls f z → turn falls z ≡ pos 0 → ⊥
helps_some a tight falls (Col j) z helps e = not_turned falls z helps e
helps_some a tight falls (Con k) z helps e = omega (arith, ints, helps.1, e)
helps_some a tight falls Cost z helps e = helps

-- where the stage's form stays basic, its value gets better
pub pivot_climbs : (a : Instance) (tight : List Choice) (stage row col : ℕ) (d e : Dictionary) → IsSized a d → (pivot : IsPivot a tight stage d row col) → IsExchanged a row col d e → AreAbove a tight stage d → (pivot.goal_row ≡ row → ⊥) → IsLess (parts a) (row_at d.rows pivot.goal_row).den (λ p. turn (is_last a stage) (value a tight d pivot.goal_row p)) (row_at e.rows pivot.goal_row).den (λ p. turn (is_last a stage) (value a tight e pivot.goal_row p))
pivot_climbs a tight stage row col d e sized pivot is above other =
    let s = pivot.goal_row in
    let hs = pivot.stage_row.within in
    let q = row_at d.rows s in
    let down = goes_down a stage d s col in
    let inside : s < length e.rows = omega (arith, hs, rows_same a row col d e sized is) in
    let stays : form_at e.basic s ≡ form_at d.basic s = basic_stays a row col s d e is other in
    let ch : (p : ℕ) → p < parts a → value a tight e s p *ℤ (entry_at d row col *ℤ q.den) ≡ ((entry_at d row col *ℤ value a tight d s p) -ℤ (entry_at d s col *ℤ value a tight d row p)) *ℤ (row_at e.rows s).den = λ p lt. change a tight row col s d e q (form_at d.basic s) p sized is pivot.leaves.within pivot.enters.within hs stays (below_of a d s sized hs) (λ x one. sized.of.identities x one s hs) in
    elim pivot.leaves.blocks.goes [
      | inl earlier ↦
          grows (parts a) down (is_last a stage) (entry_at d row col) (entry_at d s col) q.den (row_at e.rows s).den (value a tight d s) (value a tight e s) (value a tight d row) ch earlier.1
          (moves_by (turn (is_last a stage) (entry_at d s col)) (helps_some a tight (is_last a stage) (form_at d.nonbasic col) (entry_at d s col) pivot.enters.holds))
          (is.sized.rows s inside).positive
          (above row pivot.leaves.blocks.constraint pivot.leaves.within earlier.0 pivot.leaves.blocks.form pivot.leaves.blocks.free)
      | inr own ↦ absurd (other (sym own.0))
    ]
