-- The nonbasic forms of a dictionary as a set, and what the set determines.
use Rattle.std.proofs.Common.{ℕ, zero, suc, ◌+◌, ◌<◌, ◌≤◌, ◌≡◌, ◌∙◌, refl, sym, ap, subst, arith, ℤ, pos, negsuc, ◌+ℤ◌, ◌-ℤ◌, ◌*ℤ◌, List, [], ◌∷◌, length, Bool, true, false, cond, eqb, ◌||◌}
use Rattle.std.specs.List.{AllByRecursion, list_any}
use Rattle.std.proofs.lemmas.Int.{ints}
use Rattle.std.proofs.lemmas.Bool.{eqb-true, eq-eqb, ne_eqb, or_left, false_from_ne_true}
use Rattle.std.proofs.lemmas.List.Folds.{Any-from_list_any, list_any_at}
use Rattle.std.proofs.lemmas.List.{get_or_default}
use Rattle.nogoods.specs.declared.choice.Choice.{Choice}
use Rattle.lpcc_case.specs.declared.form.Form.{Form}
use Rattle.lpcc_case.specs.declared.form.Form.TheVariants.{Col, Con, Cost}
use Rattle.lpcc_case.specs.Instance.{Instance}
use Rattle.lpcc_case.specs.Points.{coefficient}
use Rattle.dict.specs.Terms.{weigh, only}
use Rattle.dict.specs.Equations.{Equation, equation}
use Rattle.dict.specs.Dictionaries.{form_at}
use Rattle.dict.specs.Forms.{AreIndependent, IsRowOf, affine_of, affine_at}
use Rattle.dict.proofs.SparseSums.{weigh_only, weigh_same_below, only_same, only_apart}
use Rattle.dict.proofs.Pivots.{by_eq}
use Rattle.orders.specs.Counts.{count_set, IsChoiceOf}
use Rattle.walks.specs.Values.{part, loosening, unit}
use Rattle.walks.specs.Duals.{IsNamed}
use Rattle.lpcc_case.specs.Forms.{number}
use Rattle.walks.proofs.Changes.{same_part}

-- ---- forms and their numbers

pub number_same : (a : Instance) (f g : Form) → IsNamed a f → IsNamed a g → number a f ≡ number a g → f ≡ g
number_same a (Col j) (Col l) nf ng e = ap Col e
number_same a (Con k) (Con l) nf ng e = ap Con (omega (arith, e))
number_same a (Col j) (Con l) nf ng e = absurd (omega (arith, e, nf))
number_same a (Con k) (Col l) nf ng e = absurd (omega (arith, e, ng))
number_same a Cost g nf ng e = absurd nf
number_same a (Col j) Cost nf ng e = absurd ng
number_same a (Con k) Cost nf ng e = absurd ng

number_below : (a : Instance) (f : Form) → IsNamed a f → number a f < a.columns + length a.constraints
number_below a (Col j) h = omega (arith, h)
number_below a (Con k) h = omega (arith, h)
number_below a Cost h = absurd h

abbrev pub is_listed : Instance → List Form → ℕ → Bool
is_listed a forms x = list_any (λ f. eqb (number a f) x) forms

place_of : Instance → List Form → ℕ → ℕ
place_of a [] x = 0
place_of a (f ∷ forms) x = cond (eqb (number a f) x) 0 (suc (place_of a forms x))

place_by : (b : Bool) (a : Instance) (f : Form) (forms : List Form) (x : ℕ) → eqb (number a f) x ≡ b → (is_listed a forms x ≡ true → (place_of a forms x < length forms) × (number a (form_at forms (place_of a forms x)) ≡ x)) → (b || is_listed a forms x) ≡ true → (cond b 0 (suc (place_of a forms x)) < length (f ∷ forms)) × (number a (form_at (f ∷ forms) (cond b 0 (suc (place_of a forms x)))) ≡ x)
place_by true a f forms x e rest h = (omega arith, eqb-true (number a f) x e)
place_by false a f forms x e rest h = let r = rest h in (omega (arith, r.0), r.1)

place_is : (a : Instance) (forms : List Form) (x : ℕ) → is_listed a forms x ≡ true → (place_of a forms x < length forms) × (number a (form_at forms (place_of a forms x)) ≡ x)
unfolding place_of
place_is a [] x h = absurd (cc)
place_is a (f ∷ forms) x h = place_by (eqb (number a f) x) a f forms x refl (place_is a forms x) h

abbrev pub AreNamed : Instance → List Form → Type 0
AreNamed a forms = (j : ℕ) → j < length forms → IsNamed a (form_at forms j)

listed_at : (a : Instance) (forms : List Form) (j : ℕ) → j < length forms → is_listed a forms (number a (form_at forms j)) ≡ true
listed_at a forms j h = list_any_at (λ f. eqb (number a f) (number a (form_at forms j))) forms j Cost h (eq-eqb (number a (form_at forms j)) (number a (form_at forms j)) refl)

-- ---- rows over the same set of forms

renumber : (ℕ → ℕ) → List (ℕ × ℤ) → List (ℕ × ℤ)
renumber to [] = []
renumber to (t ∷ ts) = (to t.0, t.1) ∷ renumber to ts

weigh_renumber : (to : ℕ → ℕ) (ts : List (ℕ × ℤ)) (v : ℕ → ℤ) → weigh (renumber to ts) v ≡ weigh ts (λ j. v (to j))
unfolding renumber
weigh_renumber to [] v = refl
weigh_renumber to (t ∷ ts) v = ap (λ z. (t.1 *ℤ v (to t.0)) +ℤ z) (weigh_renumber to ts v)

below_renumber : (to : ℕ → ℕ) (n n' : ℕ) (ts : List (ℕ × ℤ)) → ((j : ℕ) → j < n' → to j < n) → AllByRecursion (λ t. t.0 < n') ts → AllByRecursion (λ t. t.0 < n) (renumber to ts)
unfolding renumber
below_renumber to n n' [] within all = tt
below_renumber to n n' (t ∷ ts) within all = (within t.0 all.0, below_renumber to n n' ts within all.1)

-- each form of the one list is in the other
abbrev pub AreAmong : Instance → List Form → List Form → Type 0
AreAmong a some all = (x : ℕ) → x < a.columns + length a.constraints → is_listed a some x ≡ true → is_listed a all x ≡ true

pub set_part : (a : Instance) (tight : List Choice) (q s : Equation) (forms others : List Form) (f : Form) (p : ℕ) → AreIndependent (length forms) (affine_at a forms) → AreNamed a forms → AreNamed a others → AreAmong a others forms → AllByRecursion (λ t. t.0 < length forms) q.entries → AllByRecursion (λ t. t.0 < length others) s.entries → IsRowOf q (affine_of a f) (affine_at a forms) → IsRowOf s (affine_of a f) (affine_at a others) → part a tight q forms f p *ℤ s.den ≡ part a tight s others f p *ℤ q.den
set_part a tight q s forms others f p independent named named' among bq bs hq hs =
    let to : ℕ → ℕ = λ j. place_of a forms (number a (form_at others j)) in
    let found : (j : ℕ) → j < length others → (to j < length forms) × (number a (form_at forms (to j)) ≡ number a (form_at others j)) = λ j h.
    place_is a forms (number a (form_at others j)) (among (number a (form_at others j)) (number_below a (form_at others j) (named' j h)) (listed_at a others j h)) in
    let same : (j : ℕ) → j < length others → form_at forms (to j) ≡ form_at others j = λ j h. number_same a (form_at forms (to j)) (form_at others j) (named (to j) (found j h).0) (named' j h) (found j h).1 in
    let r : Equation = equation s.den s.constant (renumber to s.entries) in
    let worth : (m : Form → ℤ) → weigh (renumber to s.entries) (λ j. m (form_at forms j)) ≡ weigh s.entries (λ j. m (form_at others j)) = λ m.
    weigh_renumber to s.entries (λ j. m (form_at forms j)) ∙ weigh_same_below (length others) s.entries (λ j. m (form_at forms (to j))) (λ j. m (form_at others j)) bs (λ j h. ap m (same j h)) in
    let br : AllByRecursion (λ t. t.0 < length forms) (renumber to s.entries) = below_renumber to (length forms) (length others) s.entries (λ j h. (found j h).0) bs in
    let hr : IsRowOf r (affine_of a f) (affine_at a forms) = λ x one. hs x one ∙ ap (λ z. z +ℤ (s.constant *ℤ one)) (sym (worth (λ g. affine_of a g x one))) in
    let value : part a tight r forms f p ≡ part a tight s others f p = ap (λ z. (s.constant *ℤ unit p) +ℤ ((s.den *ℤ loosening a tight p f) -ℤ z)) (worth (loosening a tight p)) in
    same_part a tight q r forms f (length forms) p independent bq br hq hr ∙ ap (λ z. z *ℤ q.den) value

-- ---- the set as marks

abbrev pub marks_from : Instance → List Form → ℕ → ℕ → List Bool
marks_from a forms i zero = []
marks_from a forms i (suc n) = is_listed a forms i ∷ marks_from a forms (i + 1) n

abbrev pub marks : Instance → List Form → List Bool
marks a forms = marks_from a forms 0 (a.columns + length a.constraints)

marks_length : (a : Instance) (forms : List Form) (i n : ℕ) → length (marks_from a forms i n) ≡ n
marks_length a forms i zero = refl
marks_length a forms i (suc n) = ap suc (marks_length a forms (i + 1) n)

head_of : List Bool → Bool
head_of [] = false
head_of (b ∷ bs) = b

tail_of : List Bool → List Bool
tail_of [] = []
tail_of (b ∷ bs) = bs

marks_same : (a : Instance) (some all : List Form) (i n x : ℕ) → marks_from a some i n ≡ marks_from a all i n → i ≤ x → x < i + n → is_listed a some x ≡ is_listed a all x
unfolding head_of tail_of
marks_same a some all i zero x e le lt = absurd (omega (arith, le, lt))
marks_same a some all i (suc n) x e le lt =
    by_eq x i
    (λ same. subst (λ (y : ℕ). is_listed a some y ≡ is_listed a all y) (sym same) (ap head_of e))
    (λ other. marks_same a some all (i + 1) n x (ap tail_of e) (omega (arith, le, other)) (omega (arith, lt)))

pub among_from_marks : (a : Instance) (some all : List Form) → marks a some ≡ marks a all → AreAmong a some all
among_from_marks a some all e x lt h = sym (marks_same a some all 0 (a.columns + length a.constraints) x e (omega arith) (omega (arith, lt))) ∙ h

-- a form more is a mark more
mark_by : (b : Bool) (bs : List Bool) (cs : List Bool) → count_set bs ≡ count_set cs → count_set (b ∷ bs) ≡ count_set (b ∷ cs)
mark_by true bs cs e = ap suc e
mark_by false bs cs e = e

or_none : (b c : Bool) → b ≡ false → (b || c) ≡ c
or_none true c h = absurd (cc)
or_none false c h = refl

count_apart : (a : Instance) (f : Form) (forms : List Form) (i n : ℕ) → ((x : ℕ) → i ≤ x → number a f ≡ x → ⊥) → count_set (marks_from a (f ∷ forms) i n) ≡ count_set (marks_from a forms i n)
count_apart a f forms i zero h = refl
count_apart a f forms i (suc n) h =
    let none : eqb (number a f) i ≡ false = ne_eqb (number a f) i (h i (omega arith)) in
    let head : (eqb (number a f) i || is_listed a forms i) ≡ is_listed a forms i = or_none (eqb (number a f) i) (is_listed a forms i) none in
    let rest = count_apart a f forms (i + 1) n (λ x le e. h x (omega (arith, le)) e) in
    ap (λ b. count_set (b ∷ marks_from a (f ∷ forms) (i + 1) n)) head ∙ mark_by (is_listed a forms i) (marks_from a (f ∷ forms) (i + 1) n) (marks_from a forms (i + 1) n) rest

more_by : (b : Bool) (bs cs : List Bool) → count_set bs ≡ suc (count_set cs) → count_set (b ∷ bs) ≡ suc (count_set (b ∷ cs))
more_by true bs cs e = ap suc e
more_by false bs cs e = e

count_more : (a : Instance) (f : Form) (forms : List Form) (i n : ℕ) → i ≤ number a f → number a f < i + n → is_listed a forms (number a f) ≡ false → count_set (marks_from a (f ∷ forms) i n) ≡ suc (count_set (marks_from a forms i n))
count_more a f forms i zero le lt none = absurd (omega (arith, le, lt))
count_more a f forms i (suc n) le lt none =
    by_eq (number a f) i
    (λ same.
    let head : (eqb (number a f) i || is_listed a forms i) ≡ true = or_left (eqb (number a f) i) (is_listed a forms i) (eq-eqb (number a f) i same) in
    let before : is_listed a forms i ≡ false = subst (λ (x : ℕ). is_listed a forms x ≡ false) same none in
    let rest = count_apart a f forms (i + 1) n (λ x lx e. omega (arith, lx, e, same)) in
    ap (λ b. count_set (b ∷ marks_from a (f ∷ forms) (i + 1) n)) head ∙ ap suc rest ∙ ap (λ b. suc (count_set (b ∷ marks_from a forms (i + 1) n))) (sym before))
    (λ other.
    let head : (eqb (number a f) i || is_listed a forms i) ≡ is_listed a forms i = or_none (eqb (number a f) i) (is_listed a forms i) (ne_eqb (number a f) i other) in
    let rest = count_more a f forms (i + 1) n (omega (arith, le, other)) (omega (arith, lt)) none in
    ap (λ b. count_set (b ∷ marks_from a (f ∷ forms) (i + 1) n)) head ∙ more_by (is_listed a forms i) (marks_from a (f ∷ forms) (i + 1) n) (marks_from a forms (i + 1) n) rest)

no_marks : (a : Instance) (i n : ℕ) → count_set (marks_from a [] i n) ≡ 0
no_marks a i zero = refl
no_marks a i (suc n) = no_marks a (i + 1) n

abbrev pub AreDistinct : List Form → Type 0
AreDistinct forms = (j l : ℕ) → j < length forms → l < length forms → form_at forms j ≡ form_at forms l → j ≡ l

not_again : (a : Instance) (f : Form) (forms : List Form) → AreNamed a (f ∷ forms) → AreDistinct (f ∷ forms) → is_listed a forms (number a f) ≡ false
not_again a f forms named distinct =
    false_from_ne_true (is_listed a forms (number a f))
    (λ listed.
    let any = Any-from_list_any (λ g. eqb (number a g) (number a f)) forms listed in
    let here : form_at forms any.0 ≡ any.1 = get_or_default forms any.0 Cost any.1 any.2 ∙ any.3 in
    let same : form_at forms any.0 ≡ f = number_same a (form_at forms any.0) f (named (suc any.0) (omega (arith, any.2))) (named 0 (omega arith)) (ap (number a) here ∙ eqb-true (number a any.1) (number a f) any.4) in
    let e : suc any.0 ≡ 0 = distinct (suc any.0) 0 (omega (arith, any.2)) (omega arith) same in
    omega (arith, e))

count_marks : (a : Instance) (forms : List Form) → AreNamed a forms → AreDistinct forms → count_set (marks a forms) ≡ length forms
count_marks a [] named distinct = no_marks a 0 (a.columns + length a.constraints)
count_marks a (f ∷ forms) named distinct =
    let rest = count_marks a forms (λ j h. named (suc j) (omega (arith, h))) (λ j l hj hl e. omega (arith, distinct (suc j) (suc l) (omega (arith, hj)) (omega (arith, hl)) e)) in
    count_more a f forms 0 (a.columns + length a.constraints) (omega arith) (omega (arith, number_below a f (named 0 (omega arith)))) (not_again a f forms named distinct) ∙ ap suc rest

pub marks_are_choice : (a : Instance) (forms : List Form) → AreNamed a forms → AreDistinct forms → length forms ≡ a.columns → IsChoiceOf (a.columns + length a.constraints) a.columns (marks a forms)
marks_are_choice a forms named distinct size = (marks_length a forms 0 (a.columns + length a.constraints), count_marks a forms named distinct ∙ size)

-- independent forms are distinct
difference : (x y : ℤ) → x ≡ y → (pos 1 *ℤ x) +ℤ ((negsuc 0 *ℤ y) +ℤ pos 0) ≡ pos 0
difference x y e = omega (arith, ints, e)

one_apart : (x y : ℤ) → x ≡ pos 1 → y ≡ pos 0 → (pos 1 *ℤ x) +ℤ ((negsuc 0 *ℤ y) +ℤ pos 0) ≡ pos 0 → ⊥
one_apart x y ex ey e = omega (arith, ints, ex, ey, e)

pub distinct_from : (a : Instance) (forms : List Form) → AreIndependent (length forms) (affine_at a forms) → AreDistinct forms
distinct_from a forms independent j l hj hl same =
    by_eq j l (λ e. e)
    (λ other.
    let c : List (ℕ × ℤ) = (j, pos 1) ∷ (l, negsuc 0) ∷ [] in
    let sum : (x : ℕ → ℤ) → weigh c (λ i. affine_at a forms i x (pos 0)) ≡ pos 0 = λ x. difference (affine_at a forms j x (pos 0)) (affine_at a forms l x (pos 0)) (ap (λ f. affine_of a f x (pos 0)) same) in
    let none : coefficient c j ≡ pos 0 = independent c (hj, (hl, tt)) sum j in
    absurd (one_apart (only j j) (only j l) (only_same j) (only_apart j l (λ e. other (sym e))) (weigh_only c j ∙ none)))
