-- Why a direction recedes.
use Rattle.std.proofs.Common.{ℕ, zero, suc, ◌+◌, ◌<◌, ◌≤◌, ◌≡◌, ◌∙◌, refl, sym, ap, subst, arith, ℤ, pos, ◌+ℤ◌, ◌-ℤ◌, ◌*ℤ◌, neg_ℤ, ◌<ℤ◌, ◌≤ℤ◌, List, length, Bool, true, false, ◌⊎◌, inl, inr}
use Rattle.std.specs.Prelude.{unsigned_abs, All}
use Rattle.std.proofs.lemmas.Int.{ints, by_lt_z}
use Rattle.std.proofs.lemmas.Bool.{not_from_false}
use Rattle.std.proofs.Math.IntN.{zero-*ℤ, *ℤ-zero}
use Rattle.lp_base.proofs.Ring.{mul_cancel_right, mul_comm, mul_le_left, mul_le_right, mul_lt_right, le_of_mul_right, lt_of_mul_right}
use Rattle.nogoods.specs.declared.choice.Choice.{Choice}
use Rattle.lpcc_case.specs.declared.form.Form.{Form}
use Rattle.lpcc_case.specs.declared.form.Form.TheVariants.{Col, Con, Cost}
use Rattle.lpcc_case.specs.Cases.{IsCase}
use Rattle.lpcc_case.specs.Instance.{Instance, chosen, constraint_at}
use Rattle.lpcc_case.specs.Points.{Recedes, Relates, coefficient, left_side}
use Rattle.dict.specs.Terms.{only, weigh}
use Rattle.dict.specs.Equations.{Equation, Holds}
use Rattle.dict.specs.Exchanges.{turn}
use Rattle.dict.specs.Dictionaries.{Dictionary, row_at, form_at, entry_at}
use Rattle.dict.specs.Forms.{affine_of}
use Rattle.dict.proofs.Machine.{is_pos}
use Rattle.dict.proofs.Pivots.{by_eq}
use Rattle.dict.proofs.SparseSums.{only_apart, only_same}
use Rattle.walks.specs.Bases.{ArePassed, IsBase, IsHeld, MayGo, NoneBlocks}
use Rattle.walks.specs.Duals.{IsPlaced, is_free}
use Rattle.walks.specs.Steps.{IsSized}
use Rattle.walks.specs.Values.{is_fixed}
use Rattle.walks.proofs.Bases.{base_holds, base_row}
use Rattle.walks.proofs.Points.{con_stands, cost_is, held_relate, held_tight, rows_sized}
use Rattle.walks.proofs.Signs.{turn_none}
use Rattle.basic_solutions.specs.Solutions.{IsDirection, number_in}
use Rattle.basic_solutions.proofs.Fractions.{weigh_step, weigh_times}

-- ---- signs

positive_of : (den f : ℤ) → pos 0 <ℤ den → pos 0 ≤ℤ (den *ℤ f) → pos 0 ≤ℤ f
positive_of den f hd h =
    let e : f *ℤ pos (unsigned_abs den) ≡ den *ℤ f = ap (λ z. f *ℤ z) (sym (is_pos den hd)) ∙ mul_comm f den in
    le_of_mul_right (unsigned_abs den) (pos 0) f (omega (arith, ints, hd)) (omega (arith, ints, e, h))

zero_of : (den f : ℤ) → pos 0 <ℤ den → den *ℤ f ≡ pos 0 → f ≡ pos 0
zero_of den f hd h =
    let k = is_pos den hd in
    let e : f *ℤ pos (unsigned_abs den) ≡ pos 0 *ℤ pos (unsigned_abs den) = ap (λ z. f *ℤ z) (sym k) ∙ mul_comm f den ∙ h ∙ sym (zero-*ℤ (pos (unsigned_abs den))) in
    mul_cancel_right (unsigned_abs den) f (pos 0) (omega (arith, ints, hd)) e

negative_of : (den f : ℤ) → pos 0 <ℤ den → (den *ℤ f) <ℤ pos 0 → f <ℤ pos 0
negative_of den f hd h =
    by_lt_z f (pos 0) (λ below. below)
    (λ ge. let m = mul_le_left den (pos 0) f (omega (arith, ints, hd)) ge in absurd (omega (arith, ints, m, h, *ℤ-zero den)))

-- ---- the form that goes

go_by : (a : Instance) (tight : List Choice) (down : Bool) (f : Form) (k : ℕ) → MayGo a tight down f → f ≡ Con k → (is_fixed a tight k ≡ false) × (down ≡ false)
go_by a tight down (Con l) k go e = let same : l ≡ k = cc in subst (λ (n : ℕ). (is_fixed a tight n ≡ false) × (down ≡ false)) same go
go_by a tight down (Col j) k go e = absurd (cc)
go_by a tight down Cost k go e = absurd (cc)

free_of_go : (a : Instance) (tight : List Choice) (down : Bool) (f : Form) → MayGo a tight down f → is_free a tight f ≡ true
free_of_go a tight down (Col j) go = refl
free_of_go a tight down (Con k) go = not_from_false (is_fixed a tight k) go.0
free_of_go a tight down Cost go = absurd go

-- ---- the constraints

abbrev pub along : Bool → ℕ → ℕ → ℕ → ℤ
along down e s j = turn down (only e j) *ℤ pos s

row_along : (q : Equation) (down : Bool) (e s : ℕ) (f : ℤ) → Holds q f (along down e s) (pos 0) → q.den *ℤ f ≡ turn down (coefficient q.entries e) *ℤ pos s
row_along q down e s f h = omega (arith, ints, h, weigh_step q.entries down e s, *ℤ-zero q.constant)

elsewhere : (down : Bool) (e s j : ℕ) → (j ≡ e → ⊥) → along down e s j ≡ pos 0
elsewhere down e s j other = ap (λ z. z *ℤ pos s) (ap (λ z. turn down z) (only_apart e j other) ∙ turn_none down) ∙ zero-*ℤ (pos s)

up_here : (down : Bool) (e s j : ℕ) → down ≡ false → j ≡ e → along down e s j ≡ pos s
up_here down e s j up same = ap (λ z. z *ℤ pos s) (ap (λ b. turn b (only e j)) up ∙ ap (λ i. only e i) same ∙ only_same e) ∙ omega (arith, ints)

above_times : (z : ℤ) (s : ℕ) → pos 0 ≤ℤ z → pos 0 ≤ℤ (z *ℤ pos s)
above_times z s h = omega (arith, ints, mul_le_right s (pos 0) z h, zero-*ℤ (pos s))

direction_held : (a : Instance) (tight : List Choice) (down : Bool) (e s : ℕ) (d : Dictionary) (x : ℕ → ℤ) → IsCase a → IsSized a d → IsPlaced a d → ArePassed a tight (length a.constraints) d → e < length d.nonbasic → MayGo a tight down (form_at d.nonbasic e) → NoneBlocks a tight down e d → IsBase d (along down e s) x (pos 0) → IsHeld a tight x (pos 0)
direction_held a tight down e s d x kept sized placed passed within go none base =
    let rows = rows_sized a d sized in
    let u = along down e s in
    let at_place : (j k : ℕ) → j < length d.nonbasic → form_at d.nonbasic j ≡ Con k → affine_of a (Con k) x (pos 0) ≡ u j = λ j k h form.
    subst (λ (f : Form). affine_of a f x (pos 0) ≡ u j) form (base_holds a d u x (pos 0) j kept sized.of sized.size rows base (placed.nonbasic j h) h) in
    let at_row : (i k : ℕ) → i < length d.rows → form_at d.basic i ≡ Con k → (row_at d.rows i).den *ℤ affine_of a (Con k) x (pos 0) ≡ turn down (entry_at d i e) *ℤ pos s = λ i k h form.
    subst (λ (f : Form). (row_at d.rows i).den *ℤ affine_of a f x (pos 0) ≡ turn down (entry_at d i e) *ℤ pos s) form (row_along (row_at d.rows i) down e s (affine_of a (form_at d.basic i) x (pos 0)) (base_row a d u x (pos 0) i kept sized.of sized.size rows base placed.nonbasic h)) in
    record {
      fixed = λ k lt fixed.
          elim (con_stands a d k sized.of lt) [
            | inl n ↦
                by_eq n.0 e
                (λ same.
                let g = go_by a tight down (form_at d.nonbasic e) k go (ap (λ i. form_at d.nonbasic i) (sym same) ∙ n.2) in
                absurd (cc (g.0, fixed)))
                (λ other. at_place n.0 k n.1 n.2 ∙ elsewhere down e s n.0 other)
            | inr b ↦
                let inside : b.0 < length d.rows = omega (arith, b.1, sized.size) in
                let z = (passed b.0 k inside lt b.2 fixed).1 e within (free_of_go a tight down (form_at d.nonbasic e) go) in
                zero_of (row_at d.rows b.0).den (affine_of a (Con k) x (pos 0)) (rows b.0 inside).0 (at_row b.0 k inside b.2 ∙ ap (λ y. turn down y *ℤ pos s) z ∙ ap (λ y. y *ℤ pos s) (turn_none down) ∙ zero-*ℤ (pos s))
          ];
      free = λ k lt free.
          elim (con_stands a d k sized.of lt) [
            | inl n ↦
                by_eq n.0 e
                (λ same.
                let g = go_by a tight down (form_at d.nonbasic e) k go (ap (λ i. form_at d.nonbasic i) (sym same) ∙ n.2) in
                omega (arith, ints, at_place n.0 k n.1 n.2, up_here down e s n.0 g.1 same))
                (λ other. omega (arith, ints, at_place n.0 k n.1 n.2, elsewhere down e s n.0 other))
            | inr b ↦
                let inside : b.0 < length d.rows = omega (arith, b.1, sized.size) in
                positive_of (row_at d.rows b.0).den (affine_of a (Con k) x (pos 0)) (rows b.0 inside).0 (omega (arith, ints, at_row b.0 k inside b.2, above_times (turn down (entry_at d b.0 e)) s (none b.0 k inside b.2 free)))
          ];
    }

-- ---- the same along the direction made shorter

shorter : (a : Instance) (k t : ℕ) (x : ℕ → ℤ) → affine_of a (Con k) (λ c. x c *ℤ pos t) (pos 0) ≡ affine_of a (Con k) x (pos 0) *ℤ pos t
shorter a k t x =
    let w = weigh_times (constraint_at a k).terms x (pos t) in
    omega (arith, ints, w, *ℤ-zero (constraint_at a k).rhs, ap (λ z. z *ℤ pos t) (less_none (weigh (constraint_at a k).terms x) (constraint_at a k).rhs))
  where
    less_none : (w r : ℤ) → w -ℤ (r *ℤ pos 0) ≡ w
    less_none w r = omega (arith, ints, *ℤ-zero r)

held_shorter : (a : Instance) (tight : List Choice) (t : ℕ) (x : ℕ → ℤ) → 0 < t → IsHeld a tight (λ c. x c *ℤ pos t) (pos 0) → IsHeld a tight x (pos 0)
held_shorter a tight t x some held = record {
  fixed = λ k lt fixed.
      mul_cancel_right t (affine_of a (Con k) x (pos 0)) (pos 0) some (sym (shorter a k t x) ∙ held.fixed k lt fixed ∙ sym (zero-*ℤ (pos t)));
  free = λ k lt free. le_of_mul_right t (pos 0) (affine_of a (Con k) x (pos 0)) some (omega (arith, ints, shorter a k t x, held.free k lt free, zero-*ℤ (pos t)));
}

zero_right : (a : Instance) (xs : List ℤ) → All (λ c. Relates c.kind (left_side c.terms xs) (c.rhs *ℤ pos 0)) a.constraints → All (λ c. Relates c.kind (left_side c.terms xs) (pos 0)) a.constraints
zero_right a xs all k d lt = subst (λ (z : ℤ). Relates (Rattle.std.proofs.Common.get_or a.constraints k d).kind (left_side (Rattle.std.proofs.Common.get_or a.constraints k d).terms xs) z) (*ℤ-zero (Rattle.std.proofs.Common.get_or a.constraints k d).rhs) (all k d lt)

pub direction_recedes : (a : Instance) (tight : List Choice) (down : Bool) (e : ℕ) (d : Dictionary) (r : List ℤ) → IsCase a → IsSized a d → IsPlaced a d → ArePassed a tight (length a.constraints) d → e < length d.nonbasic → MayGo a tight down (form_at d.nonbasic e) → NoneBlocks a tight down e d → turn down (entry_at d (length a.constraints) e) <ℤ pos 0 → length r ≡ a.columns → IsDirection d down e (number_in r) → Recedes a tight r
direction_recedes a tight down e d r kept sized placed passed within go none helps size direction =
    let m = length a.constraints in
    let t = direction.times in
    let s = direction.step in
    let x : ℕ → ℤ = λ c. number_in r c *ℤ pos t in
    let held = held_shorter a tight t (number_in r) direction.positive (direction_held a tight down e s d x kept sized placed passed within go none direction.base) in
    let inside : m < length d.rows = omega (arith, placed.size) in
    let rows = rows_sized a d sized in
    let row = subst (λ (f : Form). (row_at d.rows m).den *ℤ affine_of a f x (pos 0) ≡ turn down (entry_at d m e) *ℤ pos s) placed.cost (row_along (row_at d.rows m) down e s (affine_of a (form_at d.basic m) x (pos 0)) (base_row a d (along down e s) x (pos 0) m kept sized.of sized.size rows direction.base placed.nonbasic inside)) in
    let below : (turn down (entry_at d m e) *ℤ pos s) <ℤ pos 0 = omega (arith, ints, mul_lt_right s (turn down (entry_at d m e)) (pos 0) direction.goes helps, zero-*ℤ (pos s)) in
    let falls = negative_of (row_at d.rows m).den (affine_of a Cost x (pos 0)) (rows m inside).0 (omega (arith, ints, row, below)) in
    let cost : affine_of a Cost x (pos 0) ≡ affine_of a Cost (number_in r) (pos 0) *ℤ pos t = weigh_times (Rattle.std.specs.List.enumerate_from 0 a.cost) (number_in r) (pos t) in
    record {
      size = size;
      keeps = zero_right a r (held_relate a tight r (pos 0) held);
      stays = λ i c lt. held_tight a tight r (pos 0) held i c lt ∙ *ℤ-zero (chosen a (Rattle.std.proofs.Common.get_or tight i c)).rhs;
      falls = subst (λ (z : ℤ). z <ℤ pos 0) (cost_is a r (pos 0)) (lt_of_mul_right t (affine_of a Cost (number_in r) (pos 0)) (pos 0) (omega (arith, ints, falls, cost, zero-*ℤ (pos t))));
    }
