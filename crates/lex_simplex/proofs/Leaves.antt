-- The form that leaves.
use Rattle.std.proofs.Common.{ℕ, suc, ◌+◌, ◌-◌, ◌<◌, ◌≤◌, ◌≡◌, ◌∙◌, sym, ap, subst, arith, ℤ, pos, ◌*ℤ◌, neg_ℤ, ◌<ℤ◌, List, length, Bool, true, false, Option, Some, None, ◌⊎◌, inl, inr}
use Rattle.std.specs.Prelude.{unsigned_abs, int_lt, IfSome, IfNone}
use Rattle.std.proofs.lemmas.Int.{ints}
use Rattle.std.proofs.Math.IntN.{*ℤ-zero}
use Rattle.nogoods.specs.declared.choice.Choice.{Choice}
use Rattle.lpcc_case.specs.declared.form.Form.{Form}
use Rattle.lpcc_case.specs.declared.form.Form.TheVariants.{Col, Con, Cost}
use Rattle.lpcc_case.specs.Instance.{Instance}
use Rattle.dict.specs.Exchanges.{turn}
use Rattle.dict.specs.Dictionaries.{Dictionary, form_at, entry_at}
use Rattle.dict.proofs.Pivots.{by_eq}
use Rattle.orders.proofs.Orders.{above_cases, above_same, less_trans}
use Rattle.walks.specs.Values.{is_fixed, parts, value}
use Rattle.walks.specs.Duals.{IsPlaced}
use Rattle.lpcc_case.specs.Forms.{number}
use Rattle.walks.specs.Steps.{IsSized, Blocks, IsLeaving, IsSooner, rate, distance}
use Rattle.walks.proofs.Keeps.{free_inside}
use Rattle.walks.proofs.Unique.{apart}
use Rattle.walks.proofs.Walks.{one_row, con_row}
use Rattle.lex_simplex.specs.Ratios.{SoonestUpto, lead}
use Rattle.basic_solutions.proofs.Shares.{share_of_none}
use Rattle.lex_simplex.proofs.Shares.{own_value, part_of_free}

pub con_inside : (a : Instance) (d : Dictionary) (i k : ℕ) → IsPlaced a d → i < length d.rows → form_at d.basic i ≡ Con k → k < length a.constraints
con_inside a d i k placed h form = named (form_at d.basic i) k form (placed.basic i (con_row a d i k placed h form))
  where
    named : (f : Form) (k : ℕ) → f ≡ Con k → Rattle.walks.specs.Duals.IsNamed a f → k < length a.constraints
    named (Con l) k e h = let same : l ≡ k = cc in subst (λ (n : ℕ). n < length a.constraints) same h
    named (Col j) k e h = absurd (cc)
    named Cost k e h = absurd (cc)

some_entry : (down : Bool) (z : ℤ) → turn down z <ℤ pos 0 ⊎ pos 0 <ℤ turn down z → 0 < unsigned_abs z
some_entry true z (inl h) = omega (arith, ints, h)
some_entry true z (inr h) = omega (arith, ints, h)
some_entry false z (inl h) = omega (arith, ints, h)
some_entry false z (inr h) = omega (arith, ints, h)

pub entry_size : (a : Instance) (tight : List Choice) (stage goal_row col i : ℕ) (down : Bool) (d : Dictionary) → Blocks a tight stage d goal_row col down i → 0 < unsigned_abs (entry_at d i col)
entry_size a tight stage goal_row col i down d b = elim b.goes [
  | inl earlier ↦ some_entry down (entry_at d i col) (inl earlier.1)
  | inr own ↦ some_entry down (entry_at d i col) (inr own.2)
]

turn_zero : (b : Bool) (z : ℤ) → z ≡ pos 0 → turn b z ≡ pos 0
turn_zero true z h = omega (arith, ints, h)
turn_zero false z h = h

turn_some : (b : Bool) (z : ℤ) → turn b z ≡ pos 0 → z ≡ pos 0
turn_some true z h = omega (arith, ints, h)
turn_some false z h = h

pub other_value : (a : Instance) (tight : List Choice) (d : Dictionary) (i l k : ℕ) → IsSized a d → i < length d.rows → l < length d.rows → (i ≡ l → ⊥) → form_at d.basic i ≡ Con k → is_fixed a tight k ≡ false → value a tight d l (suc k) ≡ pos 0
other_value a tight d i l k sized hi hl other form free =
    let e : suc k - 1 ≡ k = omega arith in
    part_of_free a tight d l (suc k) (omega arith) (ap (λ n. is_fixed a tight n) e ∙ free)
    ∙ share_of_none a d l (suc k - 1) sized hl (λ f. other (one_row a d i l sized hi hl (form ∙ ap Con (sym e) ∙ sym f))) (λ j lt f. apart a d j i sized.of lt (omega (arith, hi, sized.size)) (f ∙ ap Con e ∙ sym form))

no_product : (n : ℕ) (z : ℤ) → 0 < n → pos n *ℤ z ≡ pos 0 → z ≡ pos 0
no_product n z h e =
    let c : z *ℤ pos n ≡ pos 0 *ℤ pos n = Rattle.lp_base.proofs.Ring.mul_comm z (pos n) ∙ e ∙ sym (Rattle.std.proofs.Math.IntN.zero-*ℤ (pos n)) in
    Rattle.lp_base.proofs.Ring.mul_cancel_right n z (pos 0) h c

-- no two forms reach 0 at once
pub no_ties : (a : Instance) (tight : List Choice) (stage goal_row col i l : ℕ) (down : Bool) (d : Dictionary) → IsSized a d → i < length d.rows → l < length d.rows → (i ≡ l → ⊥) → Blocks a tight stage d goal_row col down i → Blocks a tight stage d goal_row col down l → IsSooner a tight d col down i l ⊎ IsSooner a tight d col down l i
no_ties a tight stage goal_row col i l down d sized hi hl other bi bl =
    elim (above_cases (parts a) (lead a tight d col down i l)) [
      | inl up ↦ inl up
      | inr rest ↦ elim rest [
        | inl low ↦ inr (above_same (parts a) (λ p. neg_ℤ (lead a tight d col down i l p)) (lead a tight d col down l i) (λ p lt. omega (arith, ints)) low)
        | inr none ↦
            let k = bi.constraint in
            let inside = free_inside a tight k bi.free in
            let z = none (suc k) (omega (arith, inside)) in
            let vl : distance a tight d col down l (suc k) ≡ pos 0 = turn_zero (int_lt (pos 0) (rate d col down l)) (value a tight d l (suc k)) (other_value a tight d i l k sized hi hl other bi.form bi.free) in
            let left : pos (unsigned_abs (entry_at d i col)) *ℤ distance a tight d col down l (suc k) ≡ pos 0 = ap (λ y. pos (unsigned_abs (entry_at d i col)) *ℤ y) vl ∙ *ℤ-zero (pos (unsigned_abs (entry_at d i col))) in
            let right : pos (unsigned_abs (entry_at d l col)) *ℤ distance a tight d col down i (suc k) ≡ pos 0 = omega (arith, ints, z, left) in
            let di = no_product (unsigned_abs (entry_at d l col)) (distance a tight d col down i (suc k)) (entry_size a tight stage goal_row col l down d bl) right in
            let vi = turn_some (int_lt (pos 0) (rate d col down i)) (value a tight d i (suc k)) di in
            let own = own_value a tight d i k sized hi bi.form bi.free in
            absurd (omega (arith, ints, own, vi, (sized.rows i hi).positive))
      ]
    ]

-- ---- the loop

pub soonest_stays : (a : Instance) (tight : List Choice) (stage : ℕ) (d : Dictionary) (goal_row col : ℕ) (down : Bool) (i : ℕ) (best : Option ℕ) → (Blocks a tight stage d goal_row col down i → ⊥) → SoonestUpto a tight stage d goal_row col down i best → SoonestUpto a tight stage d goal_row col down (i + 1) best
soonest_stays a tight stage d goal_row col down i None not_here h = λ k lt b. by_eq k i (λ e. not_here (subst (λ (n : ℕ). Blocks a tight stage d goal_row col down n) e b)) (λ other. h k (omega (arith, lt, other)) b)
soonest_stays a tight stage d goal_row col down i (Some s) not_here h = (omega (arith, h.0), h.1, λ k lt b. by_eq k i (λ e. absurd (not_here (subst (λ (n : ℕ). Blocks a tight stage d goal_row col down n) e b))) (λ other. h.2 k (omega (arith, lt, other)) b))

not_sooner_self : (a : Instance) (tight : List Choice) (d : Dictionary) (col : ℕ) (down : Bool) (i : ℕ) → IsSooner a tight d col down i i → ⊥
not_sooner_self a tight d col down i h = omega (arith, ints, h.number)

pub soonest_found : (a : Instance) (tight : List Choice) (stage : ℕ) (d : Dictionary) (goal_row col : ℕ) (down : Bool) (i : ℕ) → Blocks a tight stage d goal_row col down i → SoonestUpto a tight stage d goal_row col down i None → SoonestUpto a tight stage d goal_row col down (i + 1) (Some i)
soonest_found a tight stage d goal_row col down i here h = (omega arith, here, λ k lt b. by_eq k i (λ e s. not_sooner_self a tight d col down i (subst (λ (n : ℕ). IsSooner a tight d col down n i) e s)) (λ other. absurd (h k (omega (arith, lt, other)) b)))

pub soonest_new : (a : Instance) (tight : List Choice) (stage : ℕ) (d : Dictionary) (goal_row col : ℕ) (down : Bool) (i s : ℕ) → Blocks a tight stage d goal_row col down i → IsSooner a tight d col down i s → SoonestUpto a tight stage d goal_row col down i (Some s) → SoonestUpto a tight stage d goal_row col down (i + 1) (Some i)
soonest_new a tight stage d goal_row col down i s here sooner h = (
  omega arith,
  here,
  λ k lt b.
      by_eq k i
      (λ e t. not_sooner_self a tight d col down i (subst (λ (n : ℕ). IsSooner a tight d col down n i) e t))
      (λ other t. h.2 k (omega (arith, lt, other)) b
      (less_trans (parts a) (pos (unsigned_abs (entry_at d k col))) (pos (unsigned_abs (entry_at d i col))) (pos (unsigned_abs (entry_at d s col))) (distance a tight d col down k) (distance a tight d col down i) (distance a tight d col down s) (above_size (unsigned_abs (entry_at d k col)) (entry_size a tight stage goal_row col k down d b)) (above_size (unsigned_abs (entry_at d i col)) (entry_size a tight stage goal_row col i down d here)) (above_size (unsigned_abs (entry_at d s col)) (entry_size a tight stage goal_row col s down d h.1)) t sooner)),
)
  where
    above_size : (n : ℕ) → 0 < n → pos 0 <ℤ pos n
    above_size n h = omega (arith, ints, h)

pub soonest_old : (a : Instance) (tight : List Choice) (stage : ℕ) (d : Dictionary) (goal_row col : ℕ) (down : Bool) (i s : ℕ) → (IsSooner a tight d col down i s → ⊥) → SoonestUpto a tight stage d goal_row col down i (Some s) → SoonestUpto a tight stage d goal_row col down (i + 1) (Some s)
soonest_old a tight stage d goal_row col down i s late h = (omega (arith, h.0), h.1, λ k lt b. by_eq k i (λ e t. late (subst (λ (n : ℕ). IsSooner a tight d col down n s) e t)) (λ other. h.2 k (omega (arith, lt, other)) b))

-- the one that is found is the one that leaves
pub leaving_of : (a : Instance) (tight : List Choice) (stage : ℕ) (d : Dictionary) (goal_row col : ℕ) (down : Bool) (n s : ℕ) → IsSized a d → n ≡ length d.rows → SoonestUpto a tight stage d goal_row col down n (Some s) → IsLeaving a tight stage d goal_row col down s
leaving_of a tight stage d goal_row col down n s sized e h =
    let within : s < length d.rows = omega (arith, h.0, e) in
    record {
      within = within;
      blocks = h.1;
      soonest = λ i hi b. h.2 i (omega (arith, hi, e)) b;
      first = λ i hi b not_sooner.
          by_eq s i
          (λ same. subst (λ (k : ℕ). number a (form_at d.basic s) ≤ number a (form_at d.basic k)) same (omega arith))
          (λ other. elim (no_ties a tight stage goal_row col s i down d sized within hi other h.1 b) [
            | inl first ↦ absurd (not_sooner first)
            | inr second ↦ absurd (h.2 i (omega (arith, hi, e)) b second)
          ]);
    }

-- by what was found
pub some_leaves : (a : Instance) (tight : List Choice) (stage : ℕ) (d : Dictionary) (goal_row col : ℕ) (down : Bool) (n : ℕ) (best : Option ℕ) → IsSized a d → n ≡ length d.rows → SoonestUpto a tight stage d goal_row col down n best → IfSome best (λ r. IsLeaving a tight stage d goal_row col down r)
some_leaves a tight stage d goal_row col down n None sized e h = tt
some_leaves a tight stage d goal_row col down n (Some s) sized e h = leaving_of a tight stage d goal_row col down n s sized e h

pub none_leaves : (a : Instance) (tight : List Choice) (stage : ℕ) (d : Dictionary) (goal_row col : ℕ) (down : Bool) (n : ℕ) (best : Option ℕ) → n ≡ length d.rows → SoonestUpto a tight stage d goal_row col down n best → IfNone best ((i : ℕ) → i < length d.rows → Blocks a tight stage d goal_row col down i → ⊥)
none_leaves a tight stage d goal_row col down n None e h = λ i lt b. h i (omega (arith, lt, e)) b
none_leaves a tight stage d goal_row col down n (Some s) e h = tt
