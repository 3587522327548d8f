-- Forms in the order of their numbers.
use Rattle.std.proofs.Common.{ℕ, suc, ◌+◌, ◌-◌, ◌<◌, ◌≤◌, ◌≡◌, ◌∙◌, refl, sym, ap, subst, arith, List, [], ◌∷◌, length, map, Bool, true, false, cond, eqb, nat_lt}
use Rattle.std.specs.Prelude.{IsTrue, IsPermutation}
use Rattle.std.specs.List.{AllByRecursion, IsDistinct}
use Rattle.std.specs.List.Sorted.{IsNonDecreasingBy}
use Rattle.std.proofs.lemmas.Bool.{lt-ltb, le-ltb, ltb-true, eqb-false, ne_eqb, eq-eqb, and_from, cases_eq}
use Rattle.std.proofs.lemmas.List.{get_or-set_same, get_or-set_other, length-set}
use Rattle.std.proofs.lemmas.List.Sorted.{IsPermutation-map}
use Rattle.std.proofs.lemmas.Map.Keys.{IsDistinct-IsPermutation}
use Rattle.lp_base.specs.Ascending.{ascends_by}
use Rattle.lpcc_case.specs.declared.form.Form.{Form}
use Rattle.lpcc_case.specs.declared.form.Form.TheVariants.{Col, Con, Cost}
use Rattle.lpcc_case.specs.Instance.{Instance}
use Rattle.dict.specs.Dictionaries.{Dictionary, form_at, nonbasic_after}
use Rattle.dict.proofs.Pivots.{by_eq}
use Rattle.walks.specs.Duals.{IsNamed, IsPlaced}
use Rattle.lpcc_case.specs.Forms.{number}
use Rattle.walks.specs.Steps.{IsSized}
use Rattle.walks.proofs.Sets.{distinct_from, number_same}
use Rattle.walks.proofs.Unique.{apart}
use Rattle.basic_solutions.specs.Orders.{form_of}

-- ---- numbers and forms

pub form_back : (a : Instance) (f : Form) → IsNamed a f → form_of a (number a f) ≡ f
form_back a (Col j) named = ap (λ b. cond b (Col j) (Con (j - a.columns))) (lt-ltb j a.columns named)
form_back a (Con k) named =
    let e : a.columns + k - a.columns ≡ k = omega arith in
    ap (λ b. cond b (Col (a.columns + k)) (Con (a.columns + k - a.columns))) (le-ltb (a.columns + k) a.columns (omega arith)) ∙ ap Con e
form_back a Cost named = absurd named

number_by : (b : Bool) (a : Instance) (x : ℕ) → nat_lt x a.columns ≡ b → number a (cond b (Col x) (Con (x - a.columns))) ≡ x
number_by true a x e = refl
number_by false a x e = let le : a.columns ≤ x = Rattle.std.proofs.lemmas.Bool.ltb-false x a.columns e in omega (arith, le)

pub number_back : (a : Instance) (x : ℕ) → number a (form_of a x) ≡ x
number_back a x = number_by (nat_lt x a.columns) a x refl

abbrev AllNamed : Instance → List Form → Type 0
AllNamed a forms = (j : ℕ) → j < length forms → IsNamed a (form_at forms j)

later : (a : Instance) (f : Form) (forms : List Form) → AllNamed a (f ∷ forms) → AllNamed a forms
later a f forms named j lt = named (suc j) (omega (arith, lt))

forms_back : (a : Instance) (forms : List Form) → AllNamed a forms → map (form_of a) (map (number a) forms) ≡ forms
forms_back a [] named = refl
forms_back a (f ∷ forms) named =
    ap (λ g. g ∷ map (form_of a) (map (number a) forms)) (form_back a f (named 0 (omega arith))) ∙ ap (λ gs. f ∷ gs) (forms_back a forms (later a f forms named))

pub same_forms : (a : Instance) (forms : List Form) (sorted : List ℕ) → AllNamed a forms → IsPermutation (map (number a) forms) sorted → IsPermutation forms (map (form_of a) sorted)
same_forms a forms sorted named permutes =
    subst (λ (gs : List Form). IsPermutation gs (map (form_of a) sorted)) (forms_back a forms named) (IsPermutation-map (form_of a) (map (number a) forms) sorted permutes)

-- ---- none stands twice

abbrev AreOnce : List Form → Type 0
AreOnce forms = (i j : ℕ) → i < length forms → j < length forms → form_at forms i ≡ form_at forms j → i ≡ j

apart_from : (a : Instance) (f : Form) (forms : List Form) → IsNamed a f → AllNamed a forms → ((j : ℕ) → j < length forms → f ≡ form_at forms j → ⊥) → AllByRecursion (λ x. eqb (number a f) x ≡ false) (map (number a) forms)
apart_from a f [] named all other = tt
apart_from a f (g ∷ forms) named all other = (
  ne_eqb (number a f) (number a g) (λ e. other 0 (omega arith) (number_same a f g named (all 0 (omega arith)) e)),
  apart_from a f forms named (later a g forms all) (λ j lt e. other (suc j) (omega (arith, lt)) e),
)

numbers_apart : (a : Instance) (forms : List Form) → AllNamed a forms → AreOnce forms → IsDistinct eqb (map (number a) forms)
unfolding IsDistinct
numbers_apart a [] named once = tt
numbers_apart a (f ∷ forms) named once = (
  apart_from a f forms (named 0 (omega arith)) (later a f forms named) (λ j lt e. zero_suc j (once 0 (suc j) (omega arith) (omega (arith, lt)) e)),
  numbers_apart a forms (later a f forms named) (λ i j hi hj e. shorter i j (once (suc i) (suc j) (omega (arith, hi)) (omega (arith, hj)) e)),
)
  where
    zero_suc : (j : ℕ) → 0 ≡ suc j → ⊥
    zero_suc j e = omega (arith, e)

    shorter : (i j : ℕ) → suc i ≡ suc j → i ≡ j
    shorter i j e = omega (arith, e)

flips : (x y : ℕ) → eqb x y ≡ eqb y x
flips x y = grind arith

abbrev same : ℕ → ℕ
same x = x

rises : (xs : List ℕ) → IsNonDecreasingBy (λ x. x) xs → IsDistinct eqb xs → IsTrue (ascends_by same xs)
unfolding IsDistinct
rises [] up apart_all = refl
rises (x ∷ []) up apart_all = refl
rises (x ∷ y ∷ xs) up apart_all =
    let le : x ≤ y = up 0 1 0 (omega arith) (omega arith) in
    let other : x ≡ y → ⊥ = eqb-false x y apart_all.0.0 in
    let lt : x < y = less x y le other in
    and_from (nat_lt x y) (ascends_by same (y ∷ xs)) (lt-ltb x y lt) (rises (y ∷ xs) (λ i j d le_ij hj. up (suc i) (suc j) d (omega (arith, le_ij)) (omega (arith, hj))) apart_all.1)
  where
    less : (x y : ℕ) → x ≤ y → (x ≡ y → ⊥) → x < y
    less x y le other = omega (arith, le, other)

ascends_back : (a : Instance) (xs : List ℕ) → IsTrue (ascends_by same xs) → IsTrue (ascends_by (number a) (map (form_of a) xs))
ascends_back a [] h = refl
ascends_back a (x ∷ []) h = refl
ascends_back a (x ∷ y ∷ xs) h =
    let p = Rattle.lp_base.proofs.Rises.ascends_next same x y xs h in
    let lt : number a (form_of a x) < number a (form_of a y) = omega (arith, number_back a x, number_back a y, p.0) in
    and_from (nat_lt (number a (form_of a x)) (number a (form_of a y))) (ascends_by (number a) (map (form_of a) (y ∷ xs))) (lt-ltb (number a (form_of a x)) (number a (form_of a y)) lt) (ascends_back a (y ∷ xs) p.1)

pub forms_ascend : (a : Instance) (forms : List Form) (sorted : List ℕ) → AllNamed a forms → AreOnce forms → IsPermutation (map (number a) forms) sorted → IsNonDecreasingBy (λ x. x) sorted → IsTrue (ascends_by (number a) (map (form_of a) sorted))
forms_ascend a forms sorted named once permutes up =
    ascends_back a sorted (rises sorted up (IsDistinct-IsPermutation eqb flips (map (number a) forms) sorted permutes (numbers_apart a forms named once)))

-- ---- the nonbasic forms

pub nonbasic_once : (a : Instance) (d : Dictionary) → IsSized a d → AreOnce d.nonbasic
nonbasic_once a d sized i j hi hj e = distinct_from a d.nonbasic sized.of.independent i j hi hj e

pub after_named : (a : Instance) (d : Dictionary) (row col : ℕ) → IsPlaced a d → row < length a.constraints → col < length d.nonbasic → AllNamed a (nonbasic_after row col d)
after_named a d row col placed hr hc j lt =
    let inside : j < length d.nonbasic = omega (arith, lt, length-set d.nonbasic col (form_at d.basic row)) in
    by_eq j col
    (λ here.
    let at : form_at (nonbasic_after row col d) j ≡ form_at d.basic row = ap (λ n. form_at (nonbasic_after row col d) n) here ∙ get_or-set_same d.nonbasic col (form_at d.basic row) Cost hc in
    subst (λ (f : Form). IsNamed a f) (sym at) (placed.basic row hr))
    (λ other. subst (λ (f : Form). IsNamed a f) (sym (get_or-set_other d.nonbasic col j (form_at d.basic row) Cost other)) (placed.nonbasic j inside))

pub after_once : (a : Instance) (d : Dictionary) (row col : ℕ) → IsSized a d → row < length d.rows → col < length d.nonbasic → AreOnce (nonbasic_after row col d)
after_once a d row col sized hr hc i j hi hj e =
    let n = length-set d.nonbasic col (form_at d.basic row) in
    let hi' : i < length d.nonbasic = omega (arith, hi, n) in
    let hj' : j < length d.nonbasic = omega (arith, hj, n) in
    let hb : row < length d.basic = omega (arith, hr, sized.size) in
    let here : form_at (nonbasic_after row col d) col ≡ form_at d.basic row = get_or-set_same d.nonbasic col (form_at d.basic row) Cost hc in
    let kept : (l : ℕ) → (l ≡ col → ⊥) → form_at (nonbasic_after row col d) l ≡ form_at d.nonbasic l = λ l other. get_or-set_other d.nonbasic col l (form_at d.basic row) Cost other in
    by_eq i col
    (λ si.
    by_eq j col (λ sj. si ∙ sym sj)
    (λ oj. absurd (apart a d j row sized.of hj' hb (sym (kept j oj) ∙ sym e ∙ ap (λ l. form_at (nonbasic_after row col d) l) si ∙ here))))
    (λ oi.
    by_eq j col (λ sj. absurd (apart a d i row sized.of hi' hb (sym (kept i oi) ∙ e ∙ ap (λ l. form_at (nonbasic_after row col d) l) sj ∙ here)))
    (λ oj. nonbasic_once a d sized i j hi' hj' (sym (kept i oi) ∙ e ∙ kept j oj)))
