-- Sums of the first numbers of a function.
use Rattle.std.proofs.Common.{ℕ, zero, suc, ◌<◌, ◌≡◌, ◌∙◌, refl, sym, ap, subst, arith, ℤ, pos, ◌+ℤ◌, ◌*ℤ◌, ◌≤ℤ◌, List, [], ◌∷◌, cond, eqb}
use Rattle.std.proofs.lemmas.Int.{ints}
use Rattle.std.proofs.Math.IntN.{zero-*ℤ}
use Rattle.std.specs.List.{AllByRecursion}
use Rattle.lp_base.proofs.Ring.{mul_add_right, mul_assoc, mul_comm}
use Rattle.lpcc_case.specs.Points.{coefficient}
use Rattle.lpcc_case.proofs.Shares.{share_at, share_other}
use Rattle.dict.specs.Terms.{weigh}
use Rattle.orders.proofs.Orders.{by_lt}

abbrev pub upto : ℕ → (ℕ → ℤ) → ℤ
upto zero g = pos 0
upto (suc n) g = upto n g +ℤ g n

pub upto_same : (n : ℕ) (g h : ℕ → ℤ) → ((k : ℕ) → k < n → g k ≡ h k) → upto n g ≡ upto n h
upto_same zero g h e = refl
upto_same (suc n) g h e = omega (arith, ints, upto_same n g h (λ k lt. e k (omega (arith, lt))), e n (omega arith))

pub upto_none : (n : ℕ) (g : ℕ → ℤ) → ((k : ℕ) → k < n → g k ≡ pos 0) → upto n g ≡ pos 0
upto_none zero g e = refl
upto_none (suc n) g e = omega (arith, ints, upto_none n g (λ k lt. e k (omega (arith, lt))), e n (omega arith))

pub upto_add : (n : ℕ) (g h : ℕ → ℤ) → upto n (λ k. g k +ℤ h k) ≡ upto n g +ℤ upto n h
upto_add zero g h = refl
upto_add (suc n) g h = omega (arith, ints, upto_add n g h)

pub upto_times : (n : ℕ) (g : ℕ → ℤ) (c : ℤ) → upto n (λ k. g k *ℤ c) ≡ upto n g *ℤ c
upto_times zero g c = sym (zero-*ℤ c)
upto_times (suc n) g c = omega (arith, ints, upto_times n g c, mul_add_right c (upto n g) (g n))

-- a sum of numbers that are at least 0
pub upto_positive : (n : ℕ) (g : ℕ → ℤ) → ((k : ℕ) → k < n → pos 0 ≤ℤ g k) → pos 0 ≤ℤ upto n g
upto_positive zero g e = omega (arith, ints)
upto_positive (suc n) g e = omega (arith, ints, upto_positive n g (λ k lt. e k (omega (arith, lt))), e n (omega arith))

-- one number alone
pub upto_only : (n l : ℕ) (z : ℤ) (g : ℕ → ℤ) → l < n → upto n (λ k. cond (eqb l k) z (pos 0) *ℤ g k) ≡ z *ℤ g l
upto_only zero l z g h = absurd (omega arith)
upto_only (suc n) l z g h =
    by_lt l n
    (λ lt.
    let none : cond (eqb l n) z (pos 0) ≡ pos 0 = share_other l n z (λ e. omega (arith, e, lt)) in
    omega (arith, ints, upto_only n l z g lt, ap (λ y. y *ℤ g n) none ∙ zero-*ℤ (g n)))
    (λ ge.
    let e : l ≡ n = omega (arith, h, ge) in
    let rest : upto n (λ k. cond (eqb l k) z (pos 0) *ℤ g k) ≡ pos 0 = upto_none n (λ k. cond (eqb l k) z (pos 0) *ℤ g k) (λ k lt. ap (λ y. y *ℤ g k) (share_other l k z (λ s. omega (arith, s, lt, ge))) ∙ zero-*ℤ (g k)) in
    let here : cond (eqb l n) z (pos 0) *ℤ g n ≡ z *ℤ g l = ap (λ i. cond (eqb l i) z (pos 0) *ℤ g i) (sym e) ∙ ap (λ y. y *ℤ g l) (share_at l z) in
    omega (arith, ints, rest, here))

-- a sparse sum is that over all places
pub weigh_upto : (n : ℕ) (ts : List (ℕ × ℤ)) (v : ℕ → ℤ) → AllByRecursion (λ t. t.0 < n) ts → weigh ts v ≡ upto n (λ k. coefficient ts k *ℤ v k)
weigh_upto n [] v all = sym (upto_none n (λ k. coefficient [] k *ℤ v k) (λ k lt. zero-*ℤ (v k)))
weigh_upto n (t ∷ ts) v all =
    let one = upto_only n t.0 t.1 v all.0 in
    let add = upto_add n (λ k. cond (eqb t.0 k) t.1 (pos 0) *ℤ v k) (λ k. coefficient ts k *ℤ v k) in
    let split : upto n (λ k. coefficient (t ∷ ts) k *ℤ v k) ≡ upto n (λ k. (cond (eqb t.0 k) t.1 (pos 0) *ℤ v k) +ℤ (coefficient ts k *ℤ v k)) = upto_same n (λ k. coefficient (t ∷ ts) k *ℤ v k) (λ k. (cond (eqb t.0 k) t.1 (pos 0) *ℤ v k) +ℤ (coefficient ts k *ℤ v k)) (λ k lt. mul_add_right (v k) (cond (eqb t.0 k) t.1 (pos 0)) (coefficient ts k)) in
    omega (arith, ints, weigh_upto n ts v all.1, one, add, split)

-- two lists with the same coefficients weigh the same, also where the coefficients are a multiple
pub weigh_agree : (n : ℕ) (ts us : List (ℕ × ℤ)) (v : ℕ → ℤ) → AllByRecursion (λ t. t.0 < n) ts → AllByRecursion (λ t. t.0 < n) us → ((k : ℕ) → k < n → coefficient ts k ≡ coefficient us k) → weigh ts v ≡ weigh us v
weigh_agree n ts us v at au same =
    weigh_upto n ts v at ∙ upto_same n (λ k. coefficient ts k *ℤ v k) (λ k. coefficient us k *ℤ v k) (λ k lt. ap (λ z. z *ℤ v k) (same k lt)) ∙ sym (weigh_upto n us v au)

pub weigh_multiple : (n : ℕ) (ts us : List (ℕ × ℤ)) (v : ℕ → ℤ) (c e : ℤ) → AllByRecursion (λ t. t.0 < n) ts → AllByRecursion (λ t. t.0 < n) us → ((k : ℕ) → k < n → coefficient ts k *ℤ c ≡ coefficient us k *ℤ e) → weigh ts v *ℤ c ≡ weigh us v *ℤ e
weigh_multiple n ts us v c e at au same =
    ap (λ z. z *ℤ c) (weigh_upto n ts v at)
    ∙ sym (upto_times n (λ k. coefficient ts k *ℤ v k) c)
    ∙ upto_same n (λ k. (coefficient ts k *ℤ v k) *ℤ c) (λ k. (coefficient us k *ℤ v k) *ℤ e) (λ k lt. swap (coefficient ts k) (v k) c ∙ ap (λ z. z *ℤ v k) (same k lt) ∙ sym (swap (coefficient us k) (v k) e))
    ∙ upto_times n (λ k. coefficient us k *ℤ v k) e
    ∙ ap (λ z. z *ℤ e) (sym (weigh_upto n us v au))
  where
    swap : (x y z : ℤ) → (x *ℤ y) *ℤ z ≡ (x *ℤ z) *ℤ y
    swap x y z = mul_assoc x y z ∙ ap (λ w. x *ℤ w) (mul_comm y z) ∙ sym (mul_assoc x z y)

-- a sum of products, each at least 0
pub weigh_positive : (n : ℕ) (ts : List (ℕ × ℤ)) (v : ℕ → ℤ) → AllByRecursion (λ t. t.0 < n) ts → ((k : ℕ) → k < n → pos 0 ≤ℤ (coefficient ts k *ℤ v k)) → pos 0 ≤ℤ weigh ts v
weigh_positive n ts v all h = subst (λ (z : ℤ). pos 0 ≤ℤ z) (sym (weigh_upto n ts v all)) (upto_positive n (λ k. coefficient ts k *ℤ v k) h)

-- a sum to which only places with the same worth give something
pub weigh_where : (n : ℕ) (ts : List (ℕ × ℤ)) (v w : ℕ → ℤ) → AllByRecursion (λ t. t.0 < n) ts → ((k : ℕ) → k < n → coefficient ts k *ℤ v k ≡ coefficient ts k *ℤ w k) → weigh ts v ≡ weigh ts w
weigh_where n ts v w all h = weigh_upto n ts v all ∙ upto_same n (λ k. coefficient ts k *ℤ v k) (λ k. coefficient ts k *ℤ w k) h ∙ sym (weigh_upto n ts w all)
