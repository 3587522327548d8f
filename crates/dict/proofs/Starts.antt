-- The dictionary at the start of a case.
use Rattle.std.proofs.Common.{ℕ, ◌+◌, ◌^◌, ◌≤◌, ◌<◌, ◌≡◌, ◌∙◌, refl, sym, ap, subst, arith, ℤ, pos, ◌+ℤ◌, ◌-ℤ◌, ◌*ℤ◌, neg_ℤ, List, [], ◌∷◌, ◌++◌, length, map, Bool, true, false, cond}
use Rattle.std.proofs.lemmas.Int.{ints}
use Rattle.std.proofs.lemmas.Bool.{ltb-true, ltb-false, and_parts}
use Rattle.std.proofs.lemmas.List.{get_or_append_left, get_or_push, get_or-map, length-map, length-append}
use Rattle.std.proofs.lemmas.List.Elements.{recursion_from_All}
use Rattle.std.proofs.lemmas.List.FromFn.{length-map-range_with_len, get_or-map-range_with_len}
use Rattle.std.proofs.lemmas.List.Sorted.{IsPermutation-refl}
use Rattle.std.proofs.Math.IntN.{zero-*ℤ}
use Rattle.std.proofs.Math.Nat.{eq-one_of_dvd-one}
use Rattle.std.specs.Prelude.{unsigned_abs, nat_lt, ◌≢◌}
use Rattle.std.specs.List.{AllByRecursion, enumerate_from, range_with_len}
use Rattle.lp_base.specs.Ascending.{ascends_by, number_of}
use Rattle.lpcc_case.specs.declared.constraint.Constraint.{Constraint}
use Rattle.lpcc_case.specs.declared.form.Form.{Form}
use Rattle.lpcc_case.specs.declared.form.Form.TheVariants.{Col, Con, Cost}
use Rattle.lpcc_case.specs.Instance.{Instance, constraint_at, no_constraint}
use Rattle.lpcc_case.specs.Cases.{IsCase, IsConstraint, FitsCase}
use Rattle.lpcc_case.proofs.Members.{constraint_of_case}
use Rattle.dict.specs.Terms.{weigh, only, AreTerms}
use Rattle.dict.specs.Equations.{Equation, equation, Holds, IsRow, IsReduced}
use Rattle.dict.specs.Dictionaries.{IsDictionary, AreRows, row_at, form_at, AllHold}
use Rattle.dict.specs.Forms.{IsDictionaryOf, AreIndependent, affine_of, affine_at, forms_of, nonzero, constraint_row, cost_row, start_of}
use Rattle.dict.proofs.SparseSums.{weigh_only, weigh_same_below, terms_below}
use Rattle.dict.proofs.Enters.{neg_times}
use Rattle.dict.proofs.Pivots.{by_lt}

-- a row over the denominator 1 has no common divisor
over_one : (constant : ℤ) (ts : List (ℕ × ℤ)) → IsReduced (equation (pos 1) constant ts)
over_one constant ts d h = eq-one_of_dvd-one h.den

some_size : (z : ℤ) → (z ≡ pos 0 → ⊥) → 0 < unsigned_abs z
some_size z h = by_lt 0 (unsigned_abs z) (λ lt. lt) (λ ge. absurd (h (omega (arith, ints, ge))))

-- the terms of a constraint
terms_ascend : (n : ℕ) (t : ℕ × ℤ) (ts : List (ℕ × ℤ)) → ascends_by number_of (t ∷ ts) ≡ true → AllByRecursion (λ u. u.0 < n) (t ∷ ts) → AllByRecursion (λ u. FitsCase u.1 × (u.1 ≢ pos 0)) (t ∷ ts) → AreTerms (2 ^ 63) t.0 n (t ∷ ts)
terms_ascend n t [] ascends below sizes = (omega arith, some_size t.1 sizes.0.1, omega (arith, sizes.0.0), omega (arith, below.0))
terms_ascend n t (u ∷ ts) ascends below sizes =
    let less : t.0 < u.0 = ltb-true t.0 u.0 ((and_parts (nat_lt t.0 u.0) (ascends_by number_of (u ∷ ts)) ascends).0) in
    let rest = terms_ascend n u ts ((and_parts (nat_lt t.0 u.0) (ascends_by number_of (u ∷ ts)) ascends).1) below.1 sizes.1 in
    (omega arith, some_size t.1 sizes.0.1, omega (arith, sizes.0.0), (omega (arith, less), rest.1, rest.2, rest.3))

terms_all : (n : ℕ) (ts : List (ℕ × ℤ)) → ascends_by number_of ts ≡ true → AllByRecursion (λ u. u.0 < n) ts → AllByRecursion (λ u. FitsCase u.1 × (u.1 ≢ pos 0)) ts → AreTerms (2 ^ 63) 0 n ts
terms_all n [] ascends below sizes = omega arith
terms_all n (t ∷ ts) ascends below sizes =
    let r = terms_ascend n t ts ascends below sizes in
    (omega arith, r.1, r.2, r.3)

constraint_terms : (n : ℕ) (c : Constraint) → IsConstraint n c → AreTerms (2 ^ 63) 0 n c.terms
constraint_terms n c is = terms_all n c.terms is.ascending (recursion_from_All (λ (u : ℕ × ℤ). u.0 < n) c.terms is.columns_named) (recursion_from_All (λ (u : ℕ × ℤ). FitsCase u.1 × (u.1 ≢ pos 0)) c.terms is.coefficients)

-- the terms of the cost
terms_lower : (bound low less high : ℕ) (ts : List (ℕ × ℤ)) → less ≤ low → AreTerms bound low high ts → AreTerms bound less high ts
terms_lower bound low less high [] le h = omega (arith, h)
terms_lower bound low less high (t ∷ ts) le h = (omega (arith, h.0), h.1, h.2, h.3)

cost_by : (b : Bool) (k high : ℕ) (c : ℤ) (ts : List (ℕ × ℤ)) → nat_lt 0 (unsigned_abs c) ≡ b → FitsCase c → AreTerms (2 ^ 63) (k + 1) high ts → AreTerms (2 ^ 63) k high (cond b ((k, c) ∷ ts) ts)
cost_by true k high c ts h fits rest = (omega arith, ltb-true 0 (unsigned_abs c) h, omega (arith, fits), rest)
cost_by false k high c ts h fits rest = terms_lower (2 ^ 63) (k + 1) k high ts (omega arith) rest

cost_terms : (k : ℕ) (cs : List ℤ) → AllByRecursion FitsCase cs → AreTerms (2 ^ 63) k (k + length cs) (nonzero (enumerate_from k cs))
cost_terms k [] all = omega arith
cost_terms k (c ∷ cs) all =
    let high : k + 1 + length cs ≡ k + length (c ∷ cs) = omega arith in
    cost_by (nat_lt 0 (unsigned_abs c)) k (k + length (c ∷ cs)) c (nonzero (enumerate_from (k + 1) cs)) refl all.0 (subst (λ (n : ℕ). AreTerms (2 ^ 63) (k + 1) n (nonzero (enumerate_from (k + 1) cs))) high (cost_terms (k + 1) cs all.1))

nonzero_by : (b : Bool) (t : ℕ × ℤ) (ts : List (ℕ × ℤ)) (rest : ℤ) (v : ℕ → ℤ) → nat_lt 0 (unsigned_abs t.1) ≡ b → weigh ts v ≡ rest → weigh (cond b (t ∷ ts) ts) v ≡ (t.1 *ℤ v t.0) +ℤ rest
nonzero_by true t ts rest v h e = ap (λ z. (t.1 *ℤ v t.0) +ℤ z) e
nonzero_by false t ts rest v h e =
    let none : t.1 ≡ pos 0 = omega (arith, ints, ltb-false 0 (unsigned_abs t.1) h) in
    let z : t.1 *ℤ v t.0 ≡ pos 0 = ap (λ y. y *ℤ v t.0) none ∙ zero-*ℤ (v t.0) in
    omega (arith, ints, z, e)

weigh_nonzero : (ts : List (ℕ × ℤ)) (v : ℕ → ℤ) → weigh (nonzero ts) v ≡ weigh ts v
weigh_nonzero [] v = refl
weigh_nonzero (t ∷ ts) v = nonzero_by (nat_lt 0 (unsigned_abs t.1)) t (nonzero ts) (weigh ts v) v refl (weigh_nonzero ts v)

numbered_below : (k n : ℕ) (cs : List ℤ) → k + length cs ≤ n → AllByRecursion (λ t. t.0 < n) (enumerate_from k cs)
numbered_below k n [] h = tt
numbered_below k n (c ∷ cs) h = (omega (arith, h), numbered_below (k + 1) n cs (omega (arith, h)))

-- the rows and the forms at their places
constraint_at_row : (a : Instance) (i : ℕ) → i < length a.constraints → row_at (start_of a).rows i ≡ constraint_row (constraint_at a i)
constraint_at_row a i h =
    let inside : i < length (map constraint_row a.constraints) = omega (arith, h, length-map a.constraints constraint_row) in
    get_or_append_left (map constraint_row a.constraints) (cost_row a ∷ []) (equation (pos 1) (pos 0) []) i inside ∙ get_or-map constraint_row a.constraints i no_constraint (equation (pos 1) (pos 0) []) h

cost_at_row : (a : Instance) (i : ℕ) → length a.constraints ≡ i → row_at (start_of a).rows i ≡ cost_row a
cost_at_row a i e = get_or_push (map constraint_row a.constraints) (cost_row a) (equation (pos 1) (pos 0) []) i (length-map a.constraints constraint_row ∙ e)

column_at_place : (n j : ℕ) → j < n → form_at (map Col (range_with_len 0 n)) j ≡ Col j
column_at_place n j h = get_or-map-range_with_len Col 0 n j j Cost h (omega arith)

constraint_is_basic : (m i : ℕ) → i < m → form_at (map Con (range_with_len 0 m) ++ Cost ∷ []) i ≡ Con i
constraint_is_basic m i h =
    let inside : i < length (map Con (range_with_len 0 m)) = omega (arith, h, length-map-range_with_len Con 0 m) in
    get_or_append_left (map Con (range_with_len 0 m)) (Cost ∷ []) Cost i inside ∙ get_or-map-range_with_len Con 0 m i i Cost h (omega arith)

cost_is_basic : (m i : ℕ) → m ≡ i → form_at (map Con (range_with_len 0 m) ++ Cost ∷ []) i ≡ Cost
cost_is_basic m i e = get_or_push (map Con (range_with_len 0 m)) Cost Cost i (length-map-range_with_len Con 0 m ∙ e)

rows_size : (a : Instance) → length (start_of a).rows ≡ length a.constraints + 1
rows_size a = length-append (map constraint_row a.constraints) (cost_row a ∷ []) ∙ ap (λ n. n + 1) (length-map a.constraints constraint_row)

basic_size : (m : ℕ) → length (map Con (range_with_len 0 m) ++ Cost ∷ []) ≡ m + 1
basic_size m = length-append (map Con (range_with_len 0 m)) (Cost ∷ []) ∙ ap (λ n. n + 1) (length-map-range_with_len Con 0 m)

narrow_neg : (z : ℤ) → FitsCase z → unsigned_abs (neg_ℤ z) < 2 ^ 63
narrow_neg z h = omega (arith, ints, h)

constraint_is_row : (n : ℕ) (c : Constraint) → IsConstraint n c → IsRow (2 ^ 63) n (constraint_row c)
constraint_is_row n c is = record { positive = omega (arith, ints); den = omega arith; constant = narrow_neg c.rhs is.right; entries = constraint_terms n c is }

cost_is_row : (a : Instance) → IsCase a → IsRow (2 ^ 63) a.columns (cost_row a)
cost_is_row a is = record {
  positive = omega (arith, ints);
  den = omega arith;
  constant = omega arith;
  entries =
      let size : 0 + length a.cost ≡ a.columns = omega (arith, is.cost_length) in
      subst (λ (n : ℕ). AreTerms (2 ^ 63) 0 n (nonzero (enumerate_from 0 a.cost))) size (cost_terms 0 a.cost (recursion_from_All FitsCase a.cost is.costs));
}

start_rows : (a : Instance) → IsCase a → AreRows a.columns (start_of a).rows
start_rows a is i h =
    by_lt i (length a.constraints)
    (λ lt.
    let e = constraint_at_row a i lt in
    let c = constraint_of_case a i is lt in
    subst (λ (q : Equation). IsRow (2 ^ 63) a.columns q × IsReduced q) (sym e) (constraint_is_row a.columns (constraint_at a i) c, over_one (neg_ℤ (constraint_at a i).rhs) (constraint_at a i).terms))
    (λ ge.
    let e = cost_at_row a i (omega (arith, ge, h, rows_size a)) in
    subst (λ (q : Equation). IsRow (2 ^ 63) a.columns q × IsReduced q) (sym e) (cost_is_row a is, over_one (pos 0) (nonzero (enumerate_from 0 a.cost))))

pub start_is_dictionary : (a : Instance) → IsCase a → IsDictionary a.columns (start_of a)
start_is_dictionary a is = record {
  few_columns = is.few_columns;
  few_rows = omega (arith, is.few_constraints, rows_size a);
  nonbasic = length-map-range_with_len Col 0 a.columns;
  basic = basic_size (length a.constraints) ∙ sym (rows_size a);
  rows = start_rows a is;
}

-- the identities
one_times : (z : ℤ) → pos 1 *ℤ z ≡ z
one_times z = omega (arith, ints)

constraint_holds : (n : ℕ) (c : Constraint) (x v : ℕ → ℤ) (one : ℤ) → IsConstraint n c → ((j : ℕ) → j < n → v j ≡ x j) → Holds (constraint_row c) (weigh c.terms x -ℤ (c.rhs *ℤ one)) v one
constraint_holds n c x v one is same =
    let w : weigh c.terms v ≡ weigh c.terms x = weigh_same_below n c.terms v x (terms_below (2 ^ 63) 0 n c.terms (constraint_terms n c is)) same in
    omega (arith, ints, one_times (weigh c.terms x -ℤ (c.rhs *ℤ one)), w, neg_times c.rhs one)

cost_holds : (a : Instance) (x v : ℕ → ℤ) (one : ℤ) → IsCase a → ((j : ℕ) → j < a.columns → v j ≡ x j) → Holds (cost_row a) (weigh (enumerate_from 0 a.cost) x) v one
cost_holds a x v one is same =
    let w : weigh (enumerate_from 0 a.cost) v ≡ weigh (enumerate_from 0 a.cost) x = weigh_same_below a.columns (enumerate_from 0 a.cost) v x (numbered_below 0 a.columns a.cost (omega (arith, is.cost_length))) same in
    omega (arith, ints, one_times (weigh (enumerate_from 0 a.cost) x), w, weigh_nonzero (enumerate_from 0 a.cost) v, zero-*ℤ one)

start_holds : (a : Instance) (x : ℕ → ℤ) (one : ℤ) → IsCase a → AllHold (λ f. affine_of a f x one) one (start_of a)
start_holds a x one is i h =
    let v : ℕ → ℤ = λ j. affine_of a (form_at (start_of a).nonbasic j) x one in
    let same : (j : ℕ) → j < a.columns → v j ≡ x j = λ j hj. ap (λ (f : Form). affine_of a f x one) (column_at_place a.columns j hj) in
    by_lt i (length a.constraints)
    (λ lt.
    let f : affine_of a (form_at (start_of a).basic i) x one ≡ affine_of a (Con i) x one = ap (λ (g : Form). affine_of a g x one) (constraint_is_basic (length a.constraints) i lt) in
    subst (λ (q : Equation). Holds q (affine_of a (form_at (start_of a).basic i) x one) v one) (sym (constraint_at_row a i lt))
    (subst (λ (z : ℤ). Holds (constraint_row (constraint_at a i)) z v one) (sym f) (constraint_holds a.columns (constraint_at a i) x v one (constraint_of_case a i is lt) same)))
    (λ ge.
    let last : length a.constraints ≡ i = omega (arith, ge, h, rows_size a) in
    let f : affine_of a (form_at (start_of a).basic i) x one ≡ affine_of a Cost x one = ap (λ (g : Form). affine_of a g x one) (cost_is_basic (length a.constraints) i last) in
    subst (λ (q : Equation). Holds q (affine_of a (form_at (start_of a).basic i) x one) v one) (sym (cost_at_row a i last))
    (subst (λ (z : ℤ). Holds (cost_row a) z v one) (sym f) (cost_holds a x v one is same)))

start_independent : (a : Instance) → AreIndependent (length (start_of a).nonbasic) (affine_at a (start_of a).nonbasic)
start_independent a c below sum j =
    let n : length (start_of a).nonbasic ≡ a.columns = length-map-range_with_len Col 0 a.columns in
    let within : AllByRecursion (λ t. t.0 < a.columns) c = subst (λ (m : ℕ). AllByRecursion (λ t. t.0 < m) c) n below in
    sym (weigh_only c j) ∙ sym (weigh_same_below a.columns c (λ k. affine_at a (start_of a).nonbasic k (only j) (pos 0)) (only j) within (λ k h. ap (λ (f : Form). affine_of a f (only j) (pos 0)) (column_at_place a.columns k h))) ∙ sum (only j)

pub start_of_case : (a : Instance) → IsCase a → IsDictionaryOf a (start_of a)
start_of_case a is = record {
  forms = IsPermutation-refl (forms_of a);
  identities = λ x one. start_holds a x one is;
  independent = start_independent a;
}

-- the value that the code makes of its lists
pub start_made : (a : Instance) (rows : List Equation) (basic nonbasic : List Form) → rows ≡ (start_of a).rows → basic ≡ (start_of a).basic → nonbasic ≡ (start_of a).nonbasic → record { rows = rows; basic = basic; nonbasic = nonbasic } ≡ start_of a
start_made a rows basic nonbasic er eb en = rw (er, eb, en) refl
