-- The point and the ray at the end of a walk.
use Rattle.std.proofs.Common.{ℕ, suc, ◌+◌, ◌<◌, ◌≤◌, ◌≡◌, ◌∙◌, refl, sym, ap, subst, arith, ℤ, pos, ◌+ℤ◌, ◌*ℤ◌, neg_ℤ, ◌<ℤ◌, ◌≤ℤ◌, List, [], ◌∷◌, ◌++◌, length, map, get_or, Bool, true, false, eqb, ◌||◌, ◌⊎◌, inl, inr}
use Rattle.std.specs.Prelude.{unsigned_abs, All}
use Rattle.std.specs.List.{list_any, range_with_len, enumerate_from}
use Rattle.std.proofs.lemmas.Int.{ints}
use Rattle.std.proofs.lemmas.Bool.{eqb-true, eq-eqb, or_cases, or_right, cases_Bool}
use Rattle.std.proofs.lemmas.List.{get_or_default, get_or_past}
use Rattle.std.proofs.lemmas.List.Folds.{Any-from_list_any, list_any_at, list_any-append}
use Rattle.std.proofs.lemmas.List.FromFn.{length-map-range_with_len, get_or-map-range_with_len}
use Rattle.std.proofs.lemmas.List.Sorted.{list_any-IsPermutation}
use Rattle.std.proofs.Math.IntN.{zero-*ℤ, *ℤ-zero}
use Rattle.lp_base.specs.Sums.{dot}
use Rattle.lp_base.proofs.Ring.{mul_add_right, mul_add_left, mul_assoc, mul_comm, mul_cancel_right, le_of_mul_right}
use Rattle.nogoods.specs.declared.choice.Choice.{Choice}
use Rattle.lpcc_case.specs.declared.constraint.Constraint.{Constraint}
use Rattle.lpcc_case.specs.declared.constraint.Kind.{Kind}
use Rattle.lpcc_case.specs.declared.constraint.Kind.TheVariants.{Ge, Eq}
use Rattle.lpcc_case.specs.declared.form.Form.{Form}
use Rattle.lpcc_case.specs.declared.form.Form.TheVariants.{Col, Con, Cost}
use Rattle.lpcc_case.specs.Cases.{IsCase}
use Rattle.lpcc_case.specs.Instance.{Instance, constraint_at, no_constraint, chosen, chosen_number}
use Rattle.lpcc_case.specs.Points.{Point, MeetsAll, IsTightAt, Relates, left_side, cost_at}
use Rattle.dict.specs.Terms.{weigh}
use Rattle.dict.specs.Equations.{Equation, Holds}
use Rattle.dict.specs.Dictionaries.{Dictionary, row_at, form_at}
use Rattle.dict.specs.Forms.{IsDictionaryOf, affine_of, forms_of}
use Rattle.dict.proofs.Machine.{is_pos}
use Rattle.dict.proofs.SparseSums.{weigh_none}
use Rattle.orders.proofs.Orders.{by_lt, above_first}
use Rattle.orders.specs.Order.{IsAbove}
use Rattle.walks.specs.Values.{is_fixed, is_equation, is_chosen, value, parts}
use Rattle.walks.specs.Duals.{IsPlaced}
use Rattle.walks.specs.Steps.{IsSized}
use Rattle.walks.specs.Bases.{IsBase, IsHeld, AreAbove, ArePassed}
use Rattle.walks.proofs.Bases.{Stands, SizedRows, base_holds, base_row}
use Rattle.walks.proofs.Ends.{below_places, part_first}

-- ---- where a constraint stands

is_the_con : ℕ → Form → Bool
is_the_con k (Col j) = false
is_the_con k (Con l) = eqb l k
is_the_con k Cost = false

is_con_true : (k : ℕ) (f : Form) → is_the_con k f ≡ true → f ≡ Con k
unfolding is_the_con
is_con_true k (Con l) h = ap Con (eqb-true l k h)
is_con_true k (Col j) h = absurd (cc)
is_con_true k Cost h = absurd (cc)

con_stands_in : (k : ℕ) (forms : List Form) → list_any (is_the_con k) forms ≡ true → Stands forms (Con k)
con_stands_in k forms h =
    let any = Any-from_list_any (is_the_con k) forms h in
    (any.0, any.2, get_or_default forms any.0 Cost any.1 any.2 ∙ any.3 ∙ is_con_true k any.1 any.4)

con_same : (k : ℕ) → is_the_con k (Con k) ≡ true
unfolding is_the_con
con_same k = eq-eqb k k refl

con_listed : (a : Instance) (k : ℕ) → k < length a.constraints → list_any (is_the_con k) (forms_of a) ≡ true
con_listed a k h =
    let cols = map Col (range_with_len 0 a.columns) in
    let cons = map Con (range_with_len 0 (length a.constraints)) in
    let size : length cons ≡ length a.constraints = length-map-range_with_len Con 0 (length a.constraints) in
    let inside : k < length cons = omega (arith, h, size) in
    let at : get_or cons k Cost ≡ Con k = get_or-map-range_with_len Con 0 (length a.constraints) k k Cost h (omega arith) in
    let here : list_any (is_the_con k) cons ≡ true = list_any_at (is_the_con k) cons k Cost inside (ap (is_the_con k) at ∙ con_same k) in
    let with_cost : list_any (is_the_con k) (cons ++ Cost ∷ []) ≡ true = list_any-append (is_the_con k) cons (Cost ∷ []) ∙ Rattle.std.proofs.lemmas.Bool.or_left (list_any (is_the_con k) cons) (list_any (is_the_con k) (Cost ∷ [])) here in
    list_any-append (is_the_con k) cols (cons ++ Cost ∷ []) ∙ or_right (list_any (is_the_con k) cols) (list_any (is_the_con k) (cons ++ Cost ∷ [])) with_cost

pub con_stands : (a : Instance) (d : Dictionary) (k : ℕ) → IsDictionaryOf a d → k < length a.constraints → Stands d.nonbasic (Con k) ⊎ Stands d.basic (Con k)
con_stands a d k of h =
    let both : list_any (is_the_con k) (d.nonbasic ++ d.basic) ≡ true = sym (list_any-IsPermutation (is_the_con k) (forms_of a) (d.nonbasic ++ d.basic) of.forms) ∙ con_listed a k h in
    elim (or_cases (list_any (is_the_con k) d.nonbasic) (list_any (is_the_con k) d.basic) (sym (list_any-append (is_the_con k) d.nonbasic d.basic) ∙ both)) [
      | inl n ↦ inl (con_stands_in k d.nonbasic n)
      | inr b ↦ inr (con_stands_in k d.basic b)
    ]

-- ---- signs of what a row says

positive_of : (den f : ℤ) → pos 0 <ℤ den → pos 0 ≤ℤ (den *ℤ f) → pos 0 ≤ℤ f
positive_of den f hd h =
    let e : f *ℤ pos (unsigned_abs den) ≡ den *ℤ f = ap (λ z. f *ℤ z) (sym (is_pos den hd)) ∙ mul_comm f den in
    le_of_mul_right (unsigned_abs den) (pos 0) f (omega (arith, ints, hd)) (omega (arith, ints, e, h))

zero_of : (den f : ℤ) → pos 0 <ℤ den → den *ℤ f ≡ pos 0 → f ≡ pos 0
zero_of den f hd h =
    let up = positive_of den f hd (omega (arith, ints, h)) in
    let e = mul_add_left den f (neg_ℤ f) in
    let o : den *ℤ (f +ℤ neg_ℤ f) ≡ pos 0 = ap (λ z. den *ℤ z) (omega (arith, ints)) ∙ *ℤ-zero den in
    let down = positive_of den (neg_ℤ f) hd (omega (arith, ints, e, o, h)) in
    omega (arith, ints, up, down)

-- ---- constraints held at numbers of columns

pub rows_sized : (a : Instance) (d : Dictionary) → IsSized a d → SizedRows d
rows_sized a d sized i h = ((sized.rows i h).positive, below_places a d i sized h)

relates_by : (k : Kind) (left right : ℤ) → (k ≡ Eq → left ≡ right) → right ≤ℤ left → Relates k left right
relates_by Ge left right eq ge = ge
relates_by Eq left right eq ge = eq refl

equation_fixed : (a : Instance) (tight : List Choice) (k : ℕ) → (constraint_at a k).kind ≡ Eq → is_fixed a tight k ≡ true
equation_fixed a tight k e = ap (λ z. is_equation z || is_chosen a tight k) e

-- the constraints stand to these numbers as they should
pub held_relate : (a : Instance) (tight : List Choice) (xs : List ℤ) (one : ℤ) → IsHeld a tight (λ c. get_or xs c (pos 0)) one → All (λ c. Relates c.kind (left_side c.terms xs) (c.rhs *ℤ one)) a.constraints
held_relate a tight xs one held k d lt =
    let c = constraint_at a k in
    let same : get_or a.constraints k d ≡ c = get_or_default a.constraints k d no_constraint lt in
    subst (λ (c : Constraint). Relates c.kind (left_side c.terms xs) (c.rhs *ℤ one)) (sym same)
    (relates_by c.kind (left_side c.terms xs) (c.rhs *ℤ one)
    (λ e. omega (arith, ints, held.fixed k lt (equation_fixed a tight k e)))
    (elim (cases_Bool (is_fixed a tight k)) [
      | inl fixed ↦ omega (arith, ints, held.fixed k lt fixed)
      | inr free ↦ omega (arith, ints, held.free k lt free)
    ]))

past_tight : (a : Instance) (xs : List ℤ) (one : ℤ) (k : ℕ) → length a.constraints ≤ k → left_side (constraint_at a k).terms xs ≡ (constraint_at a k).rhs *ℤ one
past_tight a xs one k past =
    subst (λ (c : Constraint). left_side c.terms xs ≡ c.rhs *ℤ one) (sym (get_or_past a.constraints k no_constraint past)) (sym (zero-*ℤ one))

pub held_tight : (a : Instance) (tight : List Choice) (xs : List ℤ) (one : ℤ) → IsHeld a tight (λ c. get_or xs c (pos 0)) one → All (λ c. left_side (chosen a c).terms xs ≡ (chosen a c).rhs *ℤ one) tight
held_tight a tight xs one held i d lt =
    let c = get_or tight i d in
    let k = chosen_number a c in
    by_lt k (length a.constraints)
    (λ inside.
    let chosen_here : is_chosen a tight k ≡ true = list_any_at (λ e. eqb (chosen_number a e) k) tight i d lt (eq-eqb k k refl) in
    let fixed : is_fixed a tight k ≡ true = or_right (is_equation (constraint_at a k).kind) (is_chosen a tight k) chosen_here in
    omega (arith, ints, held.fixed k inside fixed))
    (λ past. past_tight a xs one k past)

-- the cost of numbers of columns
cost_from : (k : ℕ) (cs xs : List ℤ) (y : ℕ → ℤ) → ((n : ℕ) → y (k + n) ≡ get_or xs n (pos 0)) → weigh (enumerate_from k cs) y ≡ dot cs xs
cost_from k [] xs y h = refl
cost_from k (c ∷ cs) [] y h =
    let here : y k ≡ pos 0 = ap y (omega arith) ∙ h 0 in
    let rest = cost_from (k + 1) cs [] y (λ n. ap y (omega arith) ∙ h (suc n)) in
    let none : (cs : List ℤ) → dot cs [] ≡ pos 0 = no_products in
    omega (arith, ints, ap (λ z. c *ℤ z) here ∙ *ℤ-zero c, rest, none cs)
  where
    no_products : (cs : List ℤ) → dot cs [] ≡ pos 0
    no_products [] = refl
    no_products (c ∷ cs) = refl
cost_from k (c ∷ cs) (x ∷ xs) y h =
    let here : y k ≡ x = ap y (omega arith) ∙ h 0 in
    let rest = cost_from (k + 1) cs xs y (λ n. ap y (omega arith) ∙ h (suc n)) in
    omega (arith, ints, ap (λ z. c *ℤ z) here, rest)

pub cost_is : (a : Instance) (xs : List ℤ) (one : ℤ) → affine_of a Cost (λ c. get_or xs c (pos 0)) one ≡ dot a.cost xs
cost_is a xs one = cost_from 0 a.cost xs (λ c. get_or xs c (pos 0)) (λ n. ap (λ i. get_or xs i (pos 0)) (omega arith))

-- ---- the point

abbrev pub zeros : ℕ → ℤ
zeros j = pos 0

-- what a row says of its form where all nonbasic forms are 0
row_constant : (q : Equation) (f one : ℤ) → Holds q f zeros one → q.den *ℤ f ≡ q.constant *ℤ one
row_constant q f one h = omega (arith, ints, h, weigh_none q.entries zeros (λ j. refl))

above_constant : (a : Instance) (tight : List Choice) (d : Dictionary) (i : ℕ) → IsAbove (parts a) (value a tight d i) → pos 0 ≤ℤ (row_at d.rows i).constant
above_constant a tight d i h = subst (λ (z : ℤ). pos 0 ≤ℤ z) (part_first a tight (row_at d.rows i) d.nonbasic (form_at d.basic i)) (above_first (parts a) (value a tight d i) h)

times_up : (z one : ℤ) → pos 0 ≤ℤ z → pos 0 <ℤ one → pos 0 ≤ℤ (z *ℤ one)
times_up z one hz ho = omega (arith, ints, Rattle.lp_base.proofs.Ring.mul_le_left z (pos 0) one hz (omega (arith, ints, ho)), *ℤ-zero z)

pub point_held : (a : Instance) (tight : List Choice) (d : Dictionary) (x : ℕ → ℤ) (one : ℤ) → IsCase a → IsSized a d → IsPlaced a d → AreAbove a tight (length a.constraints) d → ArePassed a tight (length a.constraints) d → pos 0 <ℤ one → IsBase d zeros x one → IsHeld a tight x one
point_held a tight d x one kept sized placed above passed positive base =
    let rows = rows_sized a d sized in
    let at_place : (j k : ℕ) → j < length d.nonbasic → form_at d.nonbasic j ≡ Con k → affine_of a (Con k) x one ≡ pos 0 = λ j k h form.
    subst (λ (f : Form). affine_of a f x one ≡ pos 0) form (base_holds a d zeros x one j kept sized.of sized.size rows base (placed.nonbasic j h) h) in
    let at_row : (i k : ℕ) → i < length d.rows → form_at d.basic i ≡ Con k → (row_at d.rows i).den *ℤ affine_of a (Con k) x one ≡ (row_at d.rows i).constant *ℤ one = λ i k h form.
    subst (λ (f : Form). (row_at d.rows i).den *ℤ affine_of a f x one ≡ (row_at d.rows i).constant *ℤ one) form (row_constant (row_at d.rows i) (affine_of a (form_at d.basic i) x one) one (base_row a d zeros x one i kept sized.of sized.size rows base placed.nonbasic h)) in
    record {
      fixed = λ k lt fixed.
          elim (con_stands a d k sized.of lt) [
            | inl n ↦ at_place n.0 k n.1 n.2
            | inr b ↦
                let inside : b.0 < length d.rows = omega (arith, b.1, sized.size) in
                let z = (passed b.0 k inside lt b.2 fixed).0 in
                zero_of (row_at d.rows b.0).den (affine_of a (Con k) x one) (rows b.0 inside).0 (at_row b.0 k inside b.2 ∙ ap (λ y. y *ℤ one) z ∙ zero-*ℤ one)
          ];
      free = λ k lt free.
          elim (con_stands a d k sized.of lt) [
            | inl n ↦ omega (arith, ints, at_place n.0 k n.1 n.2)
            | inr b ↦
                let inside : b.0 < length d.rows = omega (arith, b.1, sized.size) in
                let up = times_up (row_at d.rows b.0).constant one (above_constant a tight d b.0 (above b.0 k inside lt b.2 free)) positive in
                positive_of (row_at d.rows b.0).den (affine_of a (Con k) x one) (rows b.0 inside).0 (omega (arith, ints, at_row b.0 k inside b.2, up))
          ];
    }

pub basic_point_meets_all : (a : Instance) (tight : List Choice) (d : Dictionary) (p : Point a.columns) → IsCase a → IsSized a d → IsPlaced a d → AreAbove a tight (length a.constraints) d → ArePassed a tight (length a.constraints) d → IsBase d (λ j. pos 0) (λ c. get_or p.x c (pos 0)) (pos p.d) → MeetsAll a p × IsTightAt a p tight × ((row_at d.rows (length a.constraints)).den *ℤ cost_at a p ≡ (row_at d.rows (length a.constraints)).constant *ℤ pos p.d)
basic_point_meets_all a tight d p kept sized placed above passed base =
    let m = length a.constraints in
    let x : ℕ → ℤ = λ c. get_or p.x c (pos 0) in
    let held = point_held a tight d x (pos p.d) kept sized placed above passed (omega (arith, ints, p.positive)) base in
    let inside : m < length d.rows = omega (arith, placed.size) in
    let row = subst (λ (f : Form). (row_at d.rows m).den *ℤ affine_of a f x (pos p.d) ≡ (row_at d.rows m).constant *ℤ pos p.d) placed.cost (row_constant (row_at d.rows m) (affine_of a (form_at d.basic m) x (pos p.d)) (pos p.d) (base_row a d zeros x (pos p.d) m kept sized.of sized.size (rows_sized a d sized) base placed.nonbasic inside)) in
    (held_relate a tight p.x (pos p.d) held, held_tight a tight p.x (pos p.d) held, ap (λ z. (row_at d.rows m).den *ℤ z) (sym (cost_is a p.x (pos p.d))) ∙ row)
