-- The cuts that rows give.
use Rattle.std.proofs.Common.{ℕ, zero, suc, ◌+◌, ◌<◌, ◌^◌, ◌≡◌, ◌∙◌, refl, sym, ap, subst, arith, ℤ, pos, ◌+ℤ◌, ◌-ℤ◌, ◌*ℤ◌, neg_ℤ, ◌<ℤ◌, ◌≤ℤ◌, List, [], ◌∷◌, length, get_or, Bool, true, false, cond, eqb, ◌⊎◌, inl, inr}
use Rattle.std.specs.Prelude.{IsTrue, unsigned_abs, nat_lt}
use Rattle.std.specs.List.{enumerate_from}
use Rattle.std.proofs.lemmas.Int.{ints}
use Rattle.std.proofs.lemmas.Bool.{and_from, lt-ltb, cases_Bool, or_cases}
use Rattle.std.proofs.lemmas.List.{get_or_default}
use Rattle.std.proofs.lemmas.List.Elements.{recursion_from_All, All-from_recursion}
use Rattle.std.proofs.Math.IntN.{*ℤ-zero}
use Rattle.lp_base.specs.Ascending.{ascends_by, number_of}
use Rattle.nogoods.specs.declared.choice.Choice.{Choice}
use Rattle.lpcc_case.specs.declared.constraint.Kind.{Kind}
use Rattle.lpcc_case.specs.declared.constraint.Kind.TheVariants.{Ge, Eq}
use Rattle.lpcc_case.specs.declared.form.Form.{Form}
use Rattle.lpcc_case.specs.declared.form.Form.TheVariants.{Con, Cost}
use Rattle.lpcc_case.specs.Instance.{Instance, constraint_at}
use Rattle.lpcc_case.specs.Pieces.{NamesPairs}
use Rattle.lpcc_case.specs.Points.{coefficient}
use Rattle.lpcc_case.proofs.Shares.{share_at, share_other}
use Rattle.dict.specs.Terms.{weigh, only, AreTerms}
use Rattle.dict.specs.Equations.{Holds, IsRow}
use Rattle.dict.specs.Exchanges.{turn}
use Rattle.dict.specs.Dictionaries.{Dictionary, row_at, form_at}
use Rattle.dict.specs.Forms.{IsDictionaryOf, affine_of}
use Rattle.dict.proofs.SparseSums.{weigh_only, weigh_same, weigh_none, terms_below, term_within, coefficient_at}
use Rattle.cuts.specs.declared.cut.Cut.TheVariants.{Ray, Point}
use Rattle.cuts.specs.Cuts.{Passes, AreMultipliers, HasSigns, column_sum, right_sum}
use Rattle.walks.specs.Values.{is_fixed, is_chosen, is_equation, share}
use Rattle.walks.specs.Duals.{AreMultipliersOf, blamed}
use Rattle.walks.proofs.Sums.{upto_same, weigh_upto}
use Rattle.walks.proofs.Margins.{con_worth, con_worth_con, con_worth_cost, row_of_constraints}
use Rattle.walks.proofs.Signs.{turn_times, turn_none, upto_turn, weigh_turn}
use Rattle.walks.proofs.Blames.{blamed_keeps, blamed_is_enough}

ascend : (bound low high : ℕ) (t : ℕ × ℤ) (ts : List (ℕ × ℤ)) → AreTerms bound low high (t ∷ ts) → IsTrue (ascends_by number_of (t ∷ ts))
ascend bound low high t [] h = refl
ascend bound low high t (u ∷ us) h = and_from (nat_lt t.0 u.0) (ascends_by number_of (u ∷ us)) (lt-ltb t.0 u.0 (omega (arith, h.3.0))) (ascend bound (t.0 + 1) high u us h.3)

ascend_all : (bound high : ℕ) (ts : List (ℕ × ℤ)) → AreTerms bound 0 high ts → IsTrue (ascends_by number_of ts)
ascend_all bound high [] h = refl
ascend_all bound high (t ∷ ts) h = ascend bound 0 high t ts h

some_number : (z : ℤ) → 0 < unsigned_abs z → z ≡ pos 0 → ⊥
some_number z h e = omega (arith, ints, h, e)

-- a sparse list of narrow numbers is a list of multipliers
are_multipliers : (a : Instance) (mult : List (ℕ × ℤ)) → AreTerms (2 ^ 63) 0 (length a.constraints) mult → AreMultipliers a mult
are_multipliers a mult terms = record {
  ascending = ascend_all (2 ^ 63) (length a.constraints) mult terms;
  constraints_named = λ i d lt. (term_within (2 ^ 63) 0 (length a.constraints) mult i (get_or mult i d) lt (get_or_default mult i d (0, pos 0) lt) terms).1;
  numbers = λ i d lt.
      let t = term_within (2 ^ 63) 0 (length a.constraints) mult i (get_or mult i d) lt (get_or_default mult i d (0, pos 0) lt) terms in
      (t.2, some_number (get_or mult i d).1 t.3);
}

-- a multiplier is the coefficient of its constraint
number_is : (a : Instance) (mult : List (ℕ × ℤ)) (i : ℕ) (d : ℕ × ℤ) → AreTerms (2 ^ 63) 0 (length a.constraints) mult → i < length mult → coefficient mult (get_or mult i d).0 ≡ (get_or mult i d).1
number_is a mult i d terms lt = coefficient_at (2 ^ 63) 0 (length a.constraints) mult i (get_or mult i d) lt (get_or_default mult i d (0, pos 0) lt) terms

equation_not : (k : Kind) → is_equation k ≡ true → k ≡ Ge → ⊥
equation_not Ge h e = absurd (cc)
equation_not Eq h e = absurd (cc)

-- where the free constraints have no negative number, the blamed choices carry all negative ones
has_signs : (a : Instance) (tight : List Choice) (mult : List (ℕ × ℤ)) → AreTerms (2 ^ 63) 0 (length a.constraints) mult → ((k : ℕ) → k < length a.constraints → is_fixed a tight k ≡ false → pos 0 ≤ℤ coefficient mult k) → HasSigns a (blamed a mult tight) mult
has_signs a tight mult terms signs i d lt negative inequality =
    let m = get_or mult i d in
    let number : coefficient mult m.0 ≡ m.1 = number_is a mult i d terms lt in
    let below : coefficient mult m.0 <ℤ pos 0 = subst (λ (z : ℤ). z <ℤ pos 0) (sym number) negative in
    let within : m.0 < length a.constraints = (are_multipliers a mult terms).constraints_named i d lt in
    elim (cases_Bool (is_fixed a tight m.0)) [
      | inl fixed ↦ elim (or_cases (is_equation (constraint_at a m.0).kind) (is_chosen a tight m.0) fixed) [
        | inl equation ↦ absurd (equation_not (constraint_at a m.0).kind equation inequality)
        | inr chosen ↦ blamed_is_enough a mult tight m.0 below chosen
      ]
      | inr free ↦ absurd (omega (arith, ints, below, signs m.0 within free))
    ]

-- the constraints, each times its multiplier, at any place
row_sum : (a : Instance) (d : Dictionary) (i bound : ℕ) (f : Form) (sign : Bool) (mult : List (ℕ × ℤ)) → IsDictionaryOf a d → i < length d.rows → form_at d.basic i ≡ f → IsRow bound (length d.nonbasic) (row_at d.rows i) → ((j : ℕ) → j < length d.nonbasic → (coefficient (row_at d.rows i).entries j ≡ pos 0) ⊎ ((l : ℕ) × (l < length a.constraints) × (form_at d.nonbasic j ≡ Con l))) → AreMultipliersOf a sign (row_at d.rows i) d.nonbasic f mult → (x : ℕ → ℤ) (one : ℤ) → weigh mult (λ k. affine_of a (Con k) x one) ≡ turn sign (((row_at d.rows i).constant *ℤ one) +ℤ ((row_at d.rows i).den *ℤ (con_worth (length a.constraints) (λ k. affine_of a (Con k) x one) f -ℤ affine_of a f x one)))
row_sum a d i bound f sign mult of within form row onlys m x one =
    let n = length a.constraints in
    let q = row_at d.rows i in
    let g : ℕ → ℤ = λ k. affine_of a (Con k) x one in
    let holds : Holds q (affine_of a f x one) (λ j. affine_of a (form_at d.nonbasic j) x one) one = subst (λ (h : Form). Holds q (affine_of a h x one) (λ j. affine_of a (form_at d.nonbasic j) x one) one) form (of.identities x one i within) in
    weigh_upto n mult g (terms_below (2 ^ 63) 0 n mult m.terms)
    ∙ upto_same n (λ k. coefficient mult k *ℤ g k) (λ k. turn sign (share q d.nonbasic f k *ℤ g k)) (λ k lt. ap (λ z. z *ℤ g k) (m.numbers k lt) ∙ turn_times sign (share q d.nonbasic f k) (g k))
    ∙ upto_turn n sign (λ k. share q d.nonbasic f k *ℤ g k)
    ∙ ap (λ z. turn sign z) (row_of_constraints n (length d.nonbasic) q d.nonbasic f (λ h. affine_of a h x one) one (terms_below bound 0 (length d.nonbasic) q.entries row.entries) holds onlys)

nowhere : ℕ → ℤ
nowhere j = pos 0

column_is : (a : Instance) (mult : List (ℕ × ℤ)) (j : ℕ) → column_sum a mult j ≡ weigh mult (λ k. affine_of a (Con k) (only j) (pos 0))
column_is a mult j =
    weigh_same mult (λ k. coefficient (constraint_at a k).terms j) (λ k. affine_of a (Con k) (only j) (pos 0))
    (λ k. omega (arith, ints, weigh_only (constraint_at a k).terms j, *ℤ-zero (constraint_at a k).rhs))

right_is : (a : Instance) (mult : List (ℕ × ℤ)) → weigh mult (λ k. affine_of a (Con k) nowhere (pos 1)) ≡ neg_ℤ (right_sum a mult)
unfolding nowhere
right_is a mult =
    weigh_same mult (λ k. affine_of a (Con k) nowhere (pos 1)) (λ k. turn true (constraint_at a k).rhs)
    (λ k. omega (arith, ints, weigh_none (constraint_at a k).terms nowhere (λ j. refl)))
    ∙ weigh_turn true mult (λ k. (constraint_at a k).rhs)

-- a row of a constraint gives a ray cut
pub ray_passes : (a : Instance) (tight : List Choice) (sign : Bool) (d : Dictionary) (i l bound : ℕ) (mult : List (ℕ × ℤ)) → IsDictionaryOf a d → i < length d.rows → form_at d.basic i ≡ Con l → l < length a.constraints → IsRow bound (length d.nonbasic) (row_at d.rows i) → ((j : ℕ) → j < length d.nonbasic → (coefficient (row_at d.rows i).entries j ≡ pos 0) ⊎ ((k : ℕ) × (k < length a.constraints) × (form_at d.nonbasic j ≡ Con k))) → AreMultipliersOf a sign (row_at d.rows i) d.nonbasic (Con l) mult → ((k : ℕ) → k < length a.constraints → is_fixed a tight k ≡ false → pos 0 ≤ℤ turn sign (share (row_at d.rows i) d.nonbasic (Con l) k)) → turn sign (row_at d.rows i).constant <ℤ pos 0 → NamesPairs a tight → Passes a (Ray (blamed a mult tight) mult)
ray_passes a tight sign d i l bound mult of within form inside row onlys m signs below named =
    let n = length a.constraints in
    let q = row_at d.rows i in
    let sum : (x : ℕ → ℤ) (one : ℤ) → weigh mult (λ k. affine_of a (Con k) x one) ≡ turn sign (q.constant *ℤ one) = λ x one.
    let same : con_worth n (λ k. affine_of a (Con k) x one) (Con l) -ℤ affine_of a (Con l) x one ≡ pos 0 = omega (arith, ints, con_worth_con n l (λ k. affine_of a (Con k) x one) inside) in
    let none : (q.constant *ℤ one) +ℤ (q.den *ℤ (con_worth n (λ k. affine_of a (Con k) x one) (Con l) -ℤ affine_of a (Con l) x one)) ≡ q.constant *ℤ one = omega (arith, ints, ap (λ z. q.den *ℤ z) same, *ℤ-zero q.den) in
    row_sum a d i bound (Con l) sign mult of within form row onlys m x one ∙ ap (λ z. turn sign z) none in
    record {
      indexed = record { multipliers = are_multipliers a mult m.terms; pairs_named = All-from_recursion (λ c. c.pair < length a.pairs) (blamed a mult tight) (blamed_keeps (λ c. c.pair < length a.pairs) a mult [] tight (recursion_from_All (λ c. c.pair < length a.pairs) tight named)) };
      signs = has_signs a tight mult m.terms (λ k lt free. subst (λ (z : ℤ). pos 0 ≤ℤ z) (sym (m.numbers k lt)) (signs k lt free));
      sums = λ j lt. column_is a mult j ∙ sum (only j) (pos 0) ∙ ap (λ z. turn sign z) (*ℤ-zero q.constant) ∙ turn_none sign;
      bound =
          let e : neg_ℤ (right_sum a mult) ≡ turn sign q.constant = sym (right_is a mult) ∙ sum nowhere (pos 1) ∙ ap (λ z. turn sign z) (omega (arith, ints)) in
          omega (arith, ints, e, below);
    }

-- the coefficient of a column in the cost
cost_before : (k j : ℕ) (cs : List ℤ) → j < k → coefficient (enumerate_from k cs) j ≡ pos 0
cost_before k j [] h = refl
cost_before k j (c ∷ cs) h = omega (arith, ints, share_other k j c (λ e. omega (arith, h, e)), cost_before (k + 1) j cs (omega (arith, h)))

cost_from : (k n j : ℕ) (cs : List ℤ) → j ≡ k + n → coefficient (enumerate_from k cs) j ≡ get_or cs n (pos 0)
cost_from k n j [] e = refl
cost_from k zero j (c ∷ cs) e =
    let same : k ≡ j = omega (arith, e) in
    let here : cond (eqb k j) c (pos 0) ≡ c = ap (λ i. cond (eqb k i) c (pos 0)) (sym same) ∙ share_at k c in
    omega (arith, ints, here, cost_before (k + 1) j cs (omega (arith, e)))
cost_from k (suc n) j (c ∷ cs) e = omega (arith, ints, share_other k j c (λ s. omega (arith, s, e)), cost_from (k + 1) n j cs (omega (arith, e)))

-- the row of the cost gives a point cut
pub point_passes : (a : Instance) (tight : List Choice) (d : Dictionary) (i bound : ℕ) (mult : List (ℕ × ℤ)) → IsDictionaryOf a d → i < length d.rows → form_at d.basic i ≡ Cost → IsRow bound (length d.nonbasic) (row_at d.rows i) → ((j : ℕ) → j < length d.nonbasic → (coefficient (row_at d.rows i).entries j ≡ pos 0) ⊎ ((k : ℕ) × (k < length a.constraints) × (form_at d.nonbasic j ≡ Con k))) → AreMultipliersOf a true (row_at d.rows i) d.nonbasic Cost mult → ((k : ℕ) → k < length a.constraints → is_fixed a tight k ≡ false → pos 0 ≤ℤ turn true (share (row_at d.rows i) d.nonbasic Cost k)) → NamesPairs a tight → Passes a (Point (blamed a mult tight) mult (row_at d.rows i).den (row_at d.rows i).constant)
unfolding nowhere
point_passes a tight d i bound mult of within form row onlys m signs named =
    let n = length a.constraints in
    let q = row_at d.rows i in
    let sum : (x : ℕ → ℤ) (one : ℤ) → weigh mult (λ k. affine_of a (Con k) x one) ≡ (q.den *ℤ affine_of a Cost x one) -ℤ (q.constant *ℤ one) = λ x one.
    let g : ℕ → ℤ = λ k. affine_of a (Con k) x one in
    let gap : con_worth n g Cost -ℤ affine_of a Cost x one ≡ neg_ℤ (affine_of a Cost x one) = omega (arith, ints, con_worth_cost n g) in
    let times : q.den *ℤ neg_ℤ (affine_of a Cost x one) ≡ neg_ℤ (q.den *ℤ affine_of a Cost x one) = Rattle.lp_base.proofs.Ring.mul_comm q.den (neg_ℤ (affine_of a Cost x one)) ∙ Rattle.dict.proofs.Enters.neg_times (affine_of a Cost x one) q.den ∙ ap neg_ℤ (Rattle.lp_base.proofs.Ring.mul_comm (affine_of a Cost x one) q.den) in
    let e = row_sum a d i bound Cost true mult of within form row onlys m x one in
    omega (arith, ints, e, ap (λ z. q.den *ℤ z) gap, times) in
    record {
      indexed = record { multipliers = are_multipliers a mult m.terms; pairs_named = All-from_recursion (λ c. c.pair < length a.pairs) (blamed a mult tight) (blamed_keeps (λ c. c.pair < length a.pairs) a mult [] tight (recursion_from_All (λ c. c.pair < length a.pairs) tight named)) };
      signs = has_signs a tight mult m.terms (λ k lt free. subst (λ (z : ℤ). pos 0 ≤ℤ z) (sym (m.numbers k lt)) (signs k lt free));
      sums = (
        omega (arith, ints, row.positive),
        λ j lt.
            let s = sum (only j) (pos 0) in
            let c : affine_of a Cost (only j) (pos 0) ≡ get_or a.cost j (pos 0) = weigh_only (enumerate_from 0 a.cost) j ∙ cost_from 0 j j a.cost (omega arith) in
            omega (arith, ints, column_is a mult j, s, ap (λ z. q.den *ℤ z) c, *ℤ-zero q.constant),
      );
      bound =
          let e = sym (right_is a mult) ∙ sum nowhere (pos 1) in
          let c : affine_of a Cost nowhere (pos 1) ≡ pos 0 = weigh_none (enumerate_from 0 a.cost) nowhere (λ j. refl) in
          omega (arith, ints, e, ap (λ z. q.den *ℤ z) c, *ℤ-zero q.den);
    }
