-- The nonbasic forms after an exchange are independent again.
use Rattle.std.proofs.Common.{ℕ, ◌*◌, ◌≤◌, ◌<◌, ◌≡◌, ◌∙◌, refl, sym, ap, arith, ℤ, pos, ◌+ℤ◌, ◌*ℤ◌, List, [], ◌∷◌, ◌++◌, cond, eqb, Bool, true, false}
use Rattle.std.specs.List.{AllByRecursion}
use Rattle.std.specs.Prelude.{unsigned_abs}
use Rattle.std.proofs.lemmas.Int.{ints, unsigned_abs-mul}
use Rattle.std.proofs.Math.Nat.{mul-le-mul}
use Rattle.std.proofs.Math.IntN.{zero-*ℤ, *ℤ-zero, +ℤ_idr}
use Rattle.lp_base.proofs.Ring.{mul_add_right, mul_assoc, mul_comm}
use Rattle.lpcc_case.specs.Points.{coefficient}
use Rattle.dict.specs.Terms.{weigh, only, without}
use Rattle.dict.specs.Equations.{Equation, scale}
use Rattle.dict.specs.Forms.{Affine, IsRowOf, AreIndependent}
use Rattle.dict.proofs.SparseSums.{weigh_append, weigh_scale, weigh_only, weigh_split, weigh_same, weigh_none, without_same, without_apart}
use Rattle.dict.proofs.Pivots.{by_lt, by_eq}

pub all_scale : (n : ℕ) (g : ℤ) (ts : List (ℕ × ℤ)) → AllByRecursion (λ t. t.0 < n) ts → AllByRecursion (λ t. t.0 < n) (scale g ts)
all_scale n g [] h = tt
all_scale n g (t ∷ ts) h = (h.0, all_scale n g ts h.1)

pub all_append : (n : ℕ) (xs ys : List (ℕ × ℤ)) → AllByRecursion (λ t. t.0 < n) xs → AllByRecursion (λ t. t.0 < n) ys → AllByRecursion (λ t. t.0 < n) (xs ++ ys)
all_append n [] ys h k = k
all_append n (x ∷ xs) ys h k = (h.0, all_append n xs ys h.1 k)

zero_factor : (a b : ℤ) → a *ℤ b ≡ pos 0 → (a ≡ pos 0 → ⊥) → b ≡ pos 0
zero_factor a b e some =
    let u : unsigned_abs a * unsigned_abs b ≡ 0 = sym (unsigned_abs-mul a b) ∙ ap unsigned_abs e in
    by_lt 0 (unsigned_abs b)
    (λ hb. by_lt 0 (unsigned_abs a)
    (λ ha. let m : 1 * 1 ≤ unsigned_abs a * unsigned_abs b = mul-le-mul ha hb in absurd (omega (arith, m, u)))
    (λ ha. absurd (some (omega (arith, ints, ha)))))
    (λ hb. omega (arith, ints, hb))

-- without the numbers at e
abbrev pub drop_at : ℕ → List (ℕ × ℤ) → List (ℕ × ℤ)
drop_at e [] = []
drop_at e (t ∷ ts) = (t.0, cond (eqb t.0 e) (pos 0) t.1) ∷ drop_at e ts

pub drop_all : (n e : ℕ) (ts : List (ℕ × ℤ)) → AllByRecursion (λ t. t.0 < n) ts → AllByRecursion (λ t. t.0 < n) (drop_at e ts)
drop_all n e [] h = tt
drop_all n e (t ∷ ts) h = (h.0, drop_all n e ts h.1)

drop_one : (b : Bool) (z x : ℤ) → cond b (pos 0) z *ℤ x ≡ z *ℤ cond b (pos 0) x
drop_one true z x = zero-*ℤ x ∙ sym (*ℤ-zero z)
drop_one false z x = refl

pub weigh_drop : (e : ℕ) (ts : List (ℕ × ℤ)) (v : ℕ → ℤ) → weigh (drop_at e ts) v ≡ weigh ts (without e v)
weigh_drop e [] v = refl
weigh_drop e (t ∷ ts) v = omega (arith, ints, drop_one (eqb t.0 e) t.1 (v t.0), weigh_drop e ts v)

nothing_at : (e j : ℕ) → without e (only e) j ≡ pos 0
nothing_at e j = grind arith

only_without : (e j i : ℕ) → (j ≡ e → ⊥) → without e (only j) i ≡ only j i
only_without e j i h = grind arith

-- the new forms g' are those of g, but f at e; q is the row of f, with an entry at e
pub independent_after : (n e : ℕ) (q : Equation) (f : Affine) (g g' : ℕ → Affine) → AreIndependent n g → AllByRecursion (λ t. t.0 < n) q.entries → IsRowOf q f g → (q.den ≡ pos 0 → ⊥) → (coefficient q.entries e ≡ pos 0 → ⊥) → ((x : ℕ → ℤ) → g' e x (pos 0) ≡ f x (pos 0)) → ((j : ℕ) (x : ℕ → ℤ) → (j ≡ e → ⊥) → g' j x (pos 0) ≡ g j x (pos 0)) → AreIndependent n g'
independent_after n e q f g g' independent bq row some_den some at_e same c bc sum =
    let a = coefficient c e in
    let both = scale a q.entries ++ scale q.den (drop_at e c) in
    let is : (v : ℕ → ℤ) → weigh both v ≡ (weigh q.entries v *ℤ a) +ℤ (weigh c (without e v) *ℤ q.den) = λ v.
    omega (arith, ints, weigh_append (scale a q.entries) (scale q.den (drop_at e c)) v, weigh_scale a q.entries v, weigh_scale q.den (drop_at e c) v ∙ ap (λ z. z *ℤ q.den) (weigh_drop e c v)) in
    let zero_sum : (x : ℕ → ℤ) → weigh both (λ j. g j x (pos 0)) ≡ pos 0 = λ x.
    let v : ℕ → ℤ = λ j. g j x (pos 0) in
    let w : ℕ → ℤ = λ j. g' j x (pos 0) in
    let r : q.den *ℤ f x (pos 0) ≡ weigh q.entries v = row x (pos 0) ∙ ap (λ z. weigh q.entries v +ℤ z) (*ℤ-zero q.constant) ∙ +ℤ_idr (weigh q.entries v) in
    let rest : weigh c (without e v) ≡ weigh c (without e w) = weigh_same c (without e v) (without e w) (λ j. by_eq j e (λ h. ap (λ i. without e v i) h ∙ without_same e v ∙ sym (ap (λ i. without e w i) h ∙ without_same e w)) (λ h. without_apart e j v h ∙ sym (same j x h) ∙ sym (without_apart e j w h))) in
    let s : (a *ℤ f x (pos 0)) +ℤ weigh c (without e w) ≡ pos 0 = ap (λ z. (a *ℤ z) +ℤ weigh c (without e w)) (sym (at_e x)) ∙ sym (weigh_split c e w) ∙ sum x in
    let t : ((a *ℤ f x (pos 0)) +ℤ weigh c (without e w)) *ℤ q.den ≡ pos 0 = ap (λ z. z *ℤ q.den) s ∙ zero-*ℤ q.den in
    let u : (a *ℤ f x (pos 0)) *ℤ q.den ≡ weigh q.entries v *ℤ a = mul_assoc a (f x (pos 0)) q.den ∙ ap (λ z. a *ℤ z) (mul_comm (f x (pos 0)) q.den ∙ r) ∙ mul_comm a (weigh q.entries v) in
    is v ∙ ap (λ z. (weigh q.entries v *ℤ a) +ℤ (z *ℤ q.den)) rest ∙ ap (λ z. z +ℤ (weigh c (without e w) *ℤ q.den)) (sym u) ∙ sym (mul_add_right q.den (a *ℤ f x (pos 0)) (weigh c (without e w))) ∙ t in
    let none : (j : ℕ) → coefficient both j ≡ pos 0 = independent both (all_append n (scale a q.entries) (scale q.den (drop_at e c)) (all_scale n a q.entries bq) (all_scale n q.den (drop_at e c) (drop_all n e c bc))) zero_sum in
    let is_at : (j : ℕ) → coefficient both j ≡ (coefficient q.entries j *ℤ a) +ℤ (weigh c (without e (only j)) *ℤ q.den) = λ j. sym (weigh_only both j) ∙ is (only j) ∙ ap (λ z. (z *ℤ a) +ℤ (weigh c (without e (only j)) *ℤ q.den)) (weigh_only q.entries j) in
    let here : a ≡ pos 0 =
    let z : weigh c (without e (only e)) ≡ pos 0 = weigh_none c (without e (only e)) (nothing_at e) in
    let p : (coefficient q.entries e *ℤ a) +ℤ (weigh c (without e (only e)) *ℤ q.den) ≡ pos 0 = sym (is_at e) ∙ none e in
    let y : weigh c (without e (only e)) *ℤ q.den ≡ pos 0 = ap (λ i. i *ℤ q.den) z ∙ zero-*ℤ q.den in
    let o : coefficient q.entries e *ℤ a ≡ pos 0 = omega (arith, ints, p, y) in
    zero_factor (coefficient q.entries e) a o some in
    λ j.
    by_eq j e
    (λ eq. ap (λ i. coefficient c i) eq ∙ here)
    (λ other.
    let x : weigh c (without e (only j)) ≡ coefficient c j = weigh_same c (without e (only j)) (only j) (λ i. only_without e j i other) ∙ weigh_only c j in
    let p : (coefficient q.entries j *ℤ a) +ℤ (weigh c (without e (only j)) *ℤ q.den) ≡ pos 0 = sym (is_at j) ∙ none j in
    let y : coefficient q.entries j *ℤ a ≡ pos 0 = ap (λ i. coefficient q.entries j *ℤ i) here ∙ *ℤ-zero (coefficient q.entries j) in
    let o : coefficient c j *ℤ q.den ≡ pos 0 = ap (λ i. i *ℤ q.den) (sym x) ∙ omega (arith, ints, p, y) in
    zero_factor q.den (coefficient c j) (mul_comm q.den (coefficient c j) ∙ o) some_den)
