-- Laws of margins, and of the sum of the constraints of a row, each times its share.
use Rattle.std.proofs.Common.{ℕ, zero, suc, ◌<◌, ◌≡◌, ◌∙◌, refl, sym, ap, arith, ℤ, pos, ◌+ℤ◌, ◌-ℤ◌, ◌*ℤ◌, List, [], ◌∷◌, ◌⊎◌, inl, inr}
use Rattle.std.proofs.lemmas.Int.{ints}
use Rattle.std.proofs.Math.IntN.{zero-*ℤ, *ℤ-zero}
use Rattle.std.specs.List.{AllByRecursion}
use Rattle.lp_base.proofs.Ring.{mul_add_right, mul_add_left, mul_assoc}
use Rattle.lpcc_case.specs.declared.form.Form.{Form}
use Rattle.lpcc_case.specs.declared.form.Form.TheVariants.{Col, Con, Cost}
use Rattle.lpcc_case.specs.Points.{coefficient}
use Rattle.dict.specs.Terms.{weigh}
use Rattle.dict.specs.Equations.{Equation, Holds}
use Rattle.dict.specs.Dictionaries.{form_at}
use Rattle.dict.proofs.SparseSums.{weigh_same}
use Rattle.walks.specs.Values.{margin, share, at_con}
use Rattle.walks.proofs.Sums.{upto, upto_none, upto_only, weigh_where}

weigh_add : (ts : List (ℕ × ℤ)) (v w : ℕ → ℤ) → weigh ts (λ j. v j +ℤ w j) ≡ weigh ts v +ℤ weigh ts w
weigh_add [] v w = refl
weigh_add (t ∷ ts) v w = omega (arith, ints, mul_add_left t.1 (v t.0) (w t.0), weigh_add ts v w)

weigh_times : (ts : List (ℕ × ℤ)) (v : ℕ → ℤ) (c : ℤ) → weigh ts (λ j. v j *ℤ c) ≡ weigh ts v *ℤ c
weigh_times [] v c = sym (zero-*ℤ c)
weigh_times (t ∷ ts) v c = omega (arith, ints, mul_assoc t.1 (v t.0) c, weigh_times ts v c, mul_add_right c (t.1 *ℤ v t.0) (weigh ts v))

pub margin_add : (q : Equation) (forms : List Form) (f : Form) (m w : Form → ℤ) → margin q forms f (λ g. m g +ℤ w g) ≡ margin q forms f m +ℤ margin q forms f w
margin_add q forms f m w = omega (arith, ints, mul_add_left q.den (m f) (w f), weigh_add q.entries (λ j. m (form_at forms j)) (λ j. w (form_at forms j)))

pub margin_times : (q : Equation) (forms : List Form) (f : Form) (m : Form → ℤ) (c : ℤ) → margin q forms f (λ g. m g *ℤ c) ≡ margin q forms f m *ℤ c
margin_times q forms f m c =
    let d = mul_assoc q.den (m f) c in
    let w = weigh_times q.entries (λ j. m (form_at forms j)) c in
    let s = mul_add_right c (margin q forms f m) (weigh q.entries (λ j. m (form_at forms j))) in
    let e : margin q forms f m +ℤ weigh q.entries (λ j. m (form_at forms j)) ≡ q.den *ℤ m f = omega (arith, ints) in
    omega (arith, ints, d, w, s, ap (λ z. z *ℤ c) e)

pub margin_same : (q : Equation) (forms : List Form) (f : Form) (m w : Form → ℤ) → ((g : Form) → m g ≡ w g) → margin q forms f m ≡ margin q forms f w
margin_same q forms f m w h = omega (arith, ints, ap (λ z. q.den *ℤ z) (h f), weigh_same q.entries (λ j. m (form_at forms j)) (λ j. w (form_at forms j)) (λ j. h (form_at forms j)))

pub margin_none : (q : Equation) (forms : List Form) (f : Form) → margin q forms f (λ g. pos 0) ≡ pos 0
margin_none q forms f =
    let w : weigh q.entries (λ j. pos 0) ≡ pos 0 = Rattle.dict.proofs.SparseSums.weigh_none q.entries (λ j. pos 0) (λ j. refl) in
    omega (arith, ints, *ℤ-zero q.den, w)

-- a row that holds
pub margin_holds : (q : Equation) (forms : List Form) (f : Form) (m : Form → ℤ) (one : ℤ) → Holds q (m f) (λ j. m (form_at forms j)) one → margin q forms f m ≡ q.constant *ℤ one
margin_holds q forms f m one h = omega (arith, ints, h)

-- the constraints with these numbers, as worths of forms
abbrev pub con_worth : ℕ → (ℕ → ℤ) → Form → ℤ
con_worth n g f = upto n (λ k. at_con k f *ℤ g k)

pub con_worth_con : (n l : ℕ) (g : ℕ → ℤ) → l < n → con_worth n g (Con l) ≡ g l
con_worth_con n l g h = upto_only n l (pos 1) g h ∙ omega (arith, ints)

pub con_worth_col : (n j : ℕ) (g : ℕ → ℤ) → con_worth n g (Col j) ≡ pos 0
con_worth_col n j g = upto_none n (λ k. at_con k (Col j) *ℤ g k) (λ k lt. zero-*ℤ (g k))

pub con_worth_cost : (n : ℕ) (g : ℕ → ℤ) → con_worth n g Cost ≡ pos 0
con_worth_cost n g = upto_none n (λ k. at_con k Cost *ℤ g k) (λ k lt. zero-*ℤ (g k))

-- the shares, each times a number, are the margin of these numbers
pub shares_sum : (n : ℕ) (q : Equation) (forms : List Form) (f : Form) (g : ℕ → ℤ) → upto n (λ k. share q forms f k *ℤ g k) ≡ margin q forms f (con_worth n g)
shares_sum zero q forms f g = sym (margin_none q forms f)
shares_sum (suc n) q forms f g =
    let add = margin_add q forms f (con_worth n g) (λ h. at_con n h *ℤ g n) in
    let last = margin_times q forms f (at_con n) (g n) in
    omega (arith, ints, shares_sum n q forms f g, add, last)

-- where only constraints have an entry, the constraints of a row, each times its share, give the row without what is no constraint of it
pub row_of_constraints : (n places : ℕ) (q : Equation) (forms : List Form) (f : Form) (m : Form → ℤ) (one : ℤ) → AllByRecursion (λ t. t.0 < places) q.entries → Holds q (m f) (λ j. m (form_at forms j)) one → ((j : ℕ) → j < places → (coefficient q.entries j ≡ pos 0) ⊎ ((l : ℕ) × (l < n) × (form_at forms j ≡ Con l))) → upto n (λ k. share q forms f k *ℤ m (Con k)) ≡ (q.constant *ℤ one) +ℤ (q.den *ℤ (con_worth n (λ k. m (Con k)) f -ℤ m f))
row_of_constraints n places q forms f m one below holds only =
    let g : ℕ → ℤ = λ k. m (Con k) in
    let same : weigh q.entries (λ j. con_worth n g (form_at forms j)) ≡ weigh q.entries (λ j. m (form_at forms j)) = weigh_where places q.entries (λ j. con_worth n g (form_at forms j)) (λ j. m (form_at forms j)) below
    (λ j lt. elim (only j lt) [
      | inl none ↦ ap (λ z. z *ℤ con_worth n g (form_at forms j)) none ∙ zero-*ℤ (con_worth n g (form_at forms j)) ∙ sym (ap (λ z. z *ℤ m (form_at forms j)) none ∙ zero-*ℤ (m (form_at forms j)))
      | inr con ↦ ap (λ z. coefficient q.entries j *ℤ z) (ap (λ h. con_worth n g h) con.2 ∙ con_worth_con n con.0 g con.1 ∙ ap m (sym con.2))
    ]) in
    let s = mul_add_left q.den (con_worth n g f -ℤ m f) (m f) in
    let t : (con_worth n g f -ℤ m f) +ℤ m f ≡ con_worth n g f = omega (arith, ints) in
    omega (arith, ints, shares_sum n q forms f g, same, holds, s, ap (λ z. q.den *ℤ z) t)
