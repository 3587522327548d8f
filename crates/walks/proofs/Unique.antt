-- Each form has one place, so the value of a constraint in a row is never 0.
use Rattle.std.proofs.Common.{ℕ, zero, suc, ◌+◌, ◌<◌, ◌≤◌, ◌≡◌, ◌∙◌, refl, sym, ap, arith, pos, ◌+ℤ◌, ◌*ℤ◌, List, [], ◌∷◌, ◌++◌, length, map, Bool, true, false, cond, eqb, inl, inr}
use Rattle.std.specs.Prelude.{⊤}
use Rattle.std.specs.List.{AllByRecursion, IsDistinct, range_with_len}
use Rattle.std.proofs.lemmas.Int.{ints}
use Rattle.std.proofs.lemmas.Bool.{eq-eqb, ne_eqb, cases_eq, eqb-false}
use Rattle.std.proofs.lemmas.Map.Keys.{IsDistinct-IsPermutation}
use Rattle.std.proofs.Math.IntN.{*ℤ-zero}
use Rattle.nogoods.specs.declared.choice.Choice.{Choice}
use Rattle.lpcc_case.specs.declared.form.Form.{Form}
use Rattle.lpcc_case.specs.declared.form.Form.TheVariants.{Col, Con, Cost}
use Rattle.lpcc_case.specs.Instance.{Instance}
use Rattle.dict.specs.Terms.{weigh}
use Rattle.dict.specs.Equations.{Equation}
use Rattle.dict.specs.Dictionaries.{Dictionary, row_at, form_at}
use Rattle.dict.specs.Forms.{IsDictionaryOf, forms_of}
use Rattle.orders.specs.Order.{IsZero}
use Rattle.walks.specs.Values.{is_fixed, at_con, part, parts, value, margin}
use Rattle.lpcc_case.specs.Forms.{number}
use Rattle.walks.specs.Steps.{IsSized}
use Rattle.dict.proofs.SparseSums.{weigh_none, weigh_same_below, terms_below}

-- the numbers ascend
AscendFrom : Instance → ℕ → List Form → Type 0
AscendFrom a low [] = ⊤
AscendFrom a low (f ∷ forms) = (low ≤ number a f) × AscendFrom a (number a f + 1) forms

lower : (a : Instance) (low less : ℕ) (forms : List Form) → less ≤ low → AscendFrom a low forms → AscendFrom a less forms
unfolding AscendFrom
lower a low less [] le h = tt
lower a low less (f ∷ forms) le h = (omega (arith, le, h.0), h.1)

abbrev pub differ : Instance → Form → Form → Bool
differ a f g = eqb (number a f) (number a g)

above_all : (a : Instance) (x low : ℕ) (forms : List Form) → x < low → AscendFrom a low forms → AllByRecursion (λ g. eqb x (number a g) ≡ false) forms
unfolding AscendFrom
above_all a x low [] lt h = tt
above_all a x low (f ∷ forms) lt h = (ne_eqb x (number a f) (λ e. omega (arith, e, h.0, lt)), above_all a x (number a f + 1) forms (omega (arith, h.0, lt)) h.1)

distinct_ascending : (a : Instance) (low : ℕ) (forms : List Form) → AscendFrom a low forms → IsDistinct (differ a) forms
unfolding IsDistinct AscendFrom
distinct_ascending a low [] h = tt
distinct_ascending a low (f ∷ forms) h = (above_all a (number a f) (number a f + 1) forms (omega arith) h.1, distinct_ascending a (number a f + 1) forms h.1)

columns_ascend : (a : Instance) (i n : ℕ) (rest : List Form) → AscendFrom a (i + n) rest → AscendFrom a i (map Col (range_with_len i n) ++ rest)
unfolding AscendFrom
columns_ascend a i zero rest h = lower a (i + 0) i rest (omega arith) h
columns_ascend a i (suc n) rest h = (omega arith, columns_ascend a (i + 1) n rest (lower a (i + suc n) (i + 1 + n) rest (omega arith) h))

constraints_ascend : (a : Instance) (i n : ℕ) (rest : List Form) → AscendFrom a (a.columns + (i + n)) rest → AscendFrom a (a.columns + i) (map Con (range_with_len i n) ++ rest)
unfolding AscendFrom
constraints_ascend a i zero rest h = lower a (a.columns + (i + 0)) (a.columns + i) rest (omega arith) h
constraints_ascend a i (suc n) rest h = (omega arith, lower a (a.columns + (i + 1)) (a.columns + i + 1) (map Con (range_with_len (i + 1) n) ++ rest) (omega arith) (constraints_ascend a (i + 1) n rest (lower a (a.columns + (i + suc n)) (a.columns + (i + 1 + n)) rest (omega arith) h)))

last : (a : Instance) → AscendFrom a (a.columns + (0 + length a.constraints)) (Cost ∷ [])
unfolding AscendFrom
last a = (omega arith, tt)

pub forms_distinct : (a : Instance) → IsDistinct (differ a) (forms_of a)
forms_distinct a = distinct_ascending a 0 (forms_of a) (columns_ascend a 0 a.columns (map Con (range_with_len 0 (length a.constraints)) ++ Cost ∷ []) (lower a (a.columns + 0) (0 + a.columns) (map Con (range_with_len 0 (length a.constraints)) ++ Cost ∷ []) (omega arith) (constraints_ascend a 0 (length a.constraints) (Cost ∷ []) (last a))))

pub flips : (a : Instance) (f g : Form) → differ a f g ≡ differ a g f
flips a f g = elim (cases_eq (number a f) (number a g)) [
  | inl e ↦ eq-eqb (number a f) (number a g) e ∙ sym (eq-eqb (number a g) (number a f) (sym e))
  | inr n ↦ ne_eqb (number a f) (number a g) n ∙ sym (ne_eqb (number a g) (number a f) (λ e. n (sym e)))
]

all_behind : (P : Form → Type 0) (xs ys : List Form) (i : ℕ) → i < length ys → AllByRecursion P (xs ++ ys) → P (form_at ys i)
all_behind P [] [] i h all = absurd (omega arith)
all_behind P [] (y ∷ ys) zero h all = all.0
all_behind P [] (y ∷ ys) (suc i) h all = all_behind P [] ys i (omega (arith, h)) all.1
all_behind P (x ∷ xs) ys i h all = all_behind P xs ys i h all.1

parts_differ : (a : Instance) (xs ys : List Form) (j i : ℕ) → j < length xs → i < length ys → IsDistinct (differ a) (xs ++ ys) → differ a (form_at xs j) (form_at ys i) ≡ false
unfolding IsDistinct
parts_differ a [] ys j i hj hi h = absurd (omega arith)
parts_differ a (x ∷ xs) ys zero i hj hi h = all_behind (λ g. differ a x g ≡ false) xs ys i hi h.0
parts_differ a (x ∷ xs) ys (suc j) i hj hi h = parts_differ a xs ys j i (omega (arith, hj)) hi h.1

-- a basic form is not nonbasic
pub apart : (a : Instance) (d : Dictionary) (j i : ℕ) → IsDictionaryOf a d → j < length d.nonbasic → i < length d.basic → form_at d.nonbasic j ≡ form_at d.basic i → ⊥
apart a d j i of hj hi same =
    let distinct = IsDistinct-IsPermutation (differ a) (flips a) (forms_of a) (d.nonbasic ++ d.basic) of.forms (forms_distinct a) in
    eqb-false (number a (form_at d.nonbasic j)) (number a (form_at d.basic i)) (parts_differ a d.nonbasic d.basic j i hj hi distinct) (ap (number a) same)

-- ---- the own eps of a constraint

pub con_apart : (k : ℕ) (f : Form) → (f ≡ Con k → ⊥) → at_con k f ≡ pos 0
con_apart k (Col j) h = refl
con_apart k (Con l) h = ap (λ b. cond b (pos 1) (pos 0)) (ne_eqb l k (λ e. h (ap Con e)))
con_apart k Cost h = refl

own_part : (b : Bool) (q : Equation) (forms : List Form) (k : ℕ) → b ≡ false → weigh q.entries (λ j. at_con k (form_at forms j)) ≡ pos 0 → (q.constant *ℤ pos 0) +ℤ margin q forms (Con k) (λ g. cond b (pos 0) (at_con k g)) ≡ q.den
own_part true q forms k free none = absurd (cc)
own_part false q forms k free none =
    let one : at_con k (Con k) ≡ pos 1 = ap (λ b. cond b (pos 1) (pos 0)) (eq-eqb k k refl) in
    let d : q.den *ℤ at_con k (Con k) ≡ q.den = ap (λ z. q.den *ℤ z) one ∙ omega (arith, ints) in
    omega (arith, ints, none, d, *ℤ-zero q.constant)

pub value_not_zero : (a : Instance) (tight : List Choice) (d : Dictionary) (i k : ℕ) → IsSized a d → i < length d.rows → k < length a.constraints → form_at d.basic i ≡ Con k → is_fixed a tight k ≡ false → IsZero (parts a) (value a tight d i) → ⊥
value_not_zero a tight d i k sized within inside form free none =
    let q = row_at d.rows i in
    let row = sized.rows i within in
    let inside_basic : i < length d.basic = omega (arith, within, sized.size) in
    let sum : weigh q.entries (λ j. at_con k (form_at d.nonbasic j)) ≡ pos 0 =
    weigh_same_below (length d.nonbasic) q.entries (λ j. at_con k (form_at d.nonbasic j)) (λ j. pos 0) (terms_below sized.bound 0 (length d.nonbasic) q.entries row.entries) (λ j h. con_apart k (form_at d.nonbasic j) (λ e. apart a d j i sized.of h inside_basic (e ∙ sym form)))
    ∙ weigh_none q.entries (λ j. pos 0) (λ j. refl) in
    let own : part a tight q d.nonbasic (Con k) (suc k) ≡ q.den = own_part (is_fixed a tight k) q d.nonbasic k free sum in
    let z : part a tight q d.nonbasic (Con k) (suc k) ≡ pos 0 = ap (λ f. part a tight q d.nonbasic f (suc k)) (sym form) ∙ none (suc k) (omega (arith, inside)) in
    omega (arith, ints, row.positive, own, z)
