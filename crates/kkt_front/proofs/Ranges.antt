-- Sums over numbers from one on, and sums of terms.
use Rattle.std.proofs.Common.{◌≡◌, ℕ, zero, suc, ◌+◌, ◌<◌, ◌≤◌, Bool, cond, List, [], ◌∷◌, get_or, refl, sym, ap, subst, ◌∙◌, inl, inr, arith, ℤ, pos, ◌+ℤ◌, ◌*ℤ◌, ◌≤ℤ◌}
use Rattle.std.specs.List.{range_with_len}
use Rattle.std.proofs.Math.IntN.{+ℤ_assoc, +ℤ_idl, +ℤ_idr, zero-*ℤ}
use Rattle.std.proofs.lemmas.Bool.{cases_eq, eq-eqb, ne_eqb}
use Rattle.std.proofs.lemmas.Int.{ints}
use Rattle.std.proofs.lemmas.List.Elements.{All-head, All-tail}
use Rattle.std.specs.Prelude.{All}
use Rattle.lp_base.specs.Ascending.{number_of}
use Rattle.lp_base.specs.Sums.{sum_over}
use Rattle.lp_base.proofs.SumLaws.{sum_over-add, sum_over-times}
use Rattle.lpcc_case.specs.Points.{left_side}
use Rattle.cert_text.proofs.Ascents.{Ascend, ascend_from_zero, ascend_parts}
use Rattle.front_text.specs.Problems.{AreTerms, Terms, coefficient_at}

abbrev pub total_from : (ℕ → ℤ) → ℕ → ℕ → ℤ
total_from g a n = sum_over g (range_with_len a n)

pub sum_same : (f g : ℕ → ℤ) (a n : ℕ) → ((i : ℕ) → a ≤ i → i < a + n → f i ≡ g i) → total_from f a n ≡ total_from g a n
sum_same f g a zero h = refl
sum_same f g a (suc n) h =
    ap (λ z. z +ℤ total_from f (a + 1) n) (h a (omega arith) (omega arith))
    ∙ ap (λ z. g a +ℤ z) (sum_same f g (a + 1) n (λ i low high. h i (omega (arith, low)) (omega (arith, high))))

pub sum_zero : (g : ℕ → ℤ) (a n : ℕ) → ((i : ℕ) → a ≤ i → i < a + n → g i ≡ pos 0) → total_from g a n ≡ pos 0
sum_zero g a zero h = refl
sum_zero g a (suc n) h =
    ap (λ z. z +ℤ total_from g (a + 1) n) (h a (omega arith) (omega arith)) ∙ +ℤ_idl (total_from g (a + 1) n)
    ∙ sum_zero g (a + 1) n (λ i low high. h i (omega (arith, low)) (omega (arith, high)))

-- a sum of which one part alone is not 0
pub sum_only : (g : ℕ → ℤ) (a n k : ℕ) → a ≤ k → k < a + n → ((i : ℕ) → (i ≡ k → ⊥) → g i ≡ pos 0) → total_from g a n ≡ g k
sum_only g a zero k low high h = absurd (omega (arith, low, high))
sum_only g a (suc n) k low high h = elim (cases_eq a k) [
  | inl here ↦ ap (λ z. g a +ℤ z) (sum_zero g (a + 1) n (λ i below _. h i (λ e. omega (arith, below, e, here)))) ∙ +ℤ_idr (g a) ∙ ap g here
  | inr other ↦
      ap (λ z. z +ℤ total_from g (a + 1) n) (h a other) ∙ +ℤ_idl (total_from g (a + 1) n)
      ∙ sum_only g (a + 1) n k (elim (cases_eq a k) [ inl e ↦ absurd (other e) | inr ne ↦ omega (arith, low, ne) ]) (omega (arith, high)) h
]

-- ---- terms

abbrev pub times_x : Terms → List ℤ → ℕ → ℤ
times_x ts x j = coefficient_at ts j *ℤ get_or x j (pos 0)

abbrev AreBelow : ℕ → Terms → Type 0
AreBelow b ts = All (λ t. t.0 < b) ts

pub coefficient_below : (ts : Terms) (a j : ℕ) → Ascend number_of a ts → j < a → coefficient_at ts j ≡ pos 0
coefficient_below [] a j h l = refl
coefficient_below (t ∷ ts) a j h l =
    ap (λ (b : Bool). cond b t.1 (coefficient_at ts j)) (ne_eqb t.0 j (λ e. omega (arith, e, l, h.0))) ∙ coefficient_below ts (t.0 + 1) j (ascend_parts number_of t ts h.1) (omega (arith, l, h.0))

pub coefficient_behind : (t : ℕ × ℤ) (ts : Terms) (j : ℕ) → (t.0 ≡ j → ⊥) → coefficient_at (t ∷ ts) j ≡ coefficient_at ts j
coefficient_behind t ts j ne = ap (λ (b : Bool). cond b t.1 (coefficient_at ts j)) (ne_eqb t.0 j ne)

pub coefficient_here : (t : ℕ × ℤ) (ts : Terms) → coefficient_at (t ∷ ts) t.0 ≡ t.1
coefficient_here t ts = ap (λ (b : Bool). cond b t.1 (coefficient_at ts t.0)) (eq-eqb t.0 t.0 refl)

-- the terms of ascending variables have the sum over all variables
dense : (ts : Terms) (x : List ℤ) (a n : ℕ) → Ascend number_of a ts → AreBelow (a + n) ts → total_from (times_x ts x) a n ≡ left_side ts x
dense [] x a n h below = sum_zero (times_x [] x) a n (λ i _ _. zero-*ℤ (get_or x i (pos 0)))
dense (t ∷ ts) x a zero h below = absurd (omega (arith, h.0, All-head (λ (u : ℕ × ℤ). u.0 < a + 0) t ts below))
dense (t ∷ ts) x a (suc n) h below = elim (cases_eq t.0 a) [
  | inl here ↦
      let rest = ascend_parts number_of t ts h.1 in
      let at_next : Ascend number_of (a + 1) ts = subst_least ts (t.0 + 1) (a + 1) (omega (arith, here)) rest in
      ap (λ z. z +ℤ total_from (times_x (t ∷ ts) x) (a + 1) n) (ap (λ j. times_x (t ∷ ts) x j) (sym here) ∙ ap (λ z. z *ℤ get_or x t.0 (pos 0)) (coefficient_here t ts))
      ∙ ap (λ z. (t.1 *ℤ get_or x t.0 (pos 0)) +ℤ z)
      (sum_same (times_x (t ∷ ts) x) (times_x ts x) (a + 1) n (λ i low _. ap (λ z. z *ℤ get_or x i (pos 0)) (coefficient_behind t ts i (λ e. omega (arith, e, here, low))))
      ∙ dense ts x (a + 1) n at_next (below_next ts (All-tail (λ (u : ℕ × ℤ). u.0 < a + suc n) t ts below)))
  | inr other ↦
      let high : a + 1 ≤ t.0 = later other h.0 in
      ap (λ z. z +ℤ total_from (times_x (t ∷ ts) x) (a + 1) n)
      (ap (λ z. z *ℤ get_or x a (pos 0)) (coefficient_below (t ∷ ts) (a + 1) a (high, h.1) (omega arith)) ∙ zero-*ℤ (get_or x a (pos 0)))
      ∙ +ℤ_idl (total_from (times_x (t ∷ ts) x) (a + 1) n)
      ∙ dense (t ∷ ts) x (a + 1) n (high, h.1) (below_next (t ∷ ts) below)
]
  where
    later : (t.0 ≡ a → ⊥) → a ≤ t.0 → a + 1 ≤ t.0
    later ne low = elim (cases_eq t.0 a) [ inl e ↦ absurd (ne e) | inr differs ↦ omega (arith, low, differs) ]

    below_next : (us : Terms) → AreBelow (a + suc n) us → AreBelow (a + 1 + n) us
    below_next us b i d l = omega (arith, b i d l)

    subst_least : (us : Terms) (b c : ℕ) → b ≡ c → Ascend number_of b us → Ascend number_of c us
    subst_least us b c e k = subst (λ m. Ascend number_of m us) e k

pub sum_of_terms : (ts : Terms) (x : List ℤ) (n : ℕ) → AreTerms 0 n ts → total_from (times_x ts x) 0 n ≡ left_side ts x
sum_of_terms ts x n h = dense ts x 0 n (ascend_from_zero number_of ts h.ascending) (λ i d l. omega (arith, (h.named i d l).1))

-- ---- sums in parts, and sums of sums

pub sum_split : (g : ℕ → ℤ) (a m n : ℕ) → total_from g a (m + n) ≡ total_from g a m +ℤ total_from g (a + m) n
sum_split g a zero n =
    ap (total_from g a) (let z : 0 + n ≡ n = omega arith in z) ∙ ap (λ k. total_from g k n) (let z : a ≡ a + 0 = omega arith in z) ∙ sym (+ℤ_idl (total_from g (a + 0) n))
sum_split g a (suc m) n =
    ap (total_from g a) (let z : suc m + n ≡ suc (m + n) = omega arith in z)
    ∙ ap (λ z. g a +ℤ z) (sum_split g (a + 1) m n ∙ ap (λ k. total_from g (a + 1) m +ℤ total_from g k n) (let z : a + 1 + m ≡ a + suc m = omega arith in z))
    ∙ sym (+ℤ_assoc (g a) (total_from g (a + 1) m) (total_from g (a + suc m) n))

pub sum_shift : (g : ℕ → ℤ) (s a n : ℕ) → total_from (λ k. g (s + k)) a n ≡ total_from g (s + a) n
sum_shift g s a zero = refl
sum_shift g s a (suc n) = ap (λ z. g (s + a) +ℤ z) (sum_shift g s (a + 1) n ∙ ap (λ k. total_from g k n) (let z : s + (a + 1) ≡ s + a + 1 = omega arith in z))

pub sum_swap : (h : ℕ → ℕ → ℤ) (a m b n : ℕ) → total_from (λ k. total_from (h k) b n) a m ≡ total_from (λ i. total_from (λ k. h k i) a m) b n
sum_swap h a zero b n = sym (sum_zero (λ i. pos 0) b n (λ i _ _. refl))
sum_swap h a (suc m) b n = ap (λ z. total_from (h a) b n +ℤ z) (sum_swap h (a + 1) m b n) ∙ sym (sum_over-add (h a) (λ i. total_from (λ k. h k i) (a + 1) m) (range_with_len b n))

pub sum_factor : (y : ℤ) (g : ℕ → ℤ) (a n : ℕ) → total_from (λ k. y *ℤ g k) a n ≡ y *ℤ total_from g a n
sum_factor y g a n = sum_over-times y g (range_with_len a n)

pub sum_le : (f g : ℕ → ℤ) (a n : ℕ) → ((i : ℕ) → a ≤ i → i < a + n → f i ≤ℤ g i) → total_from f a n ≤ℤ total_from g a n
sum_le f g a zero h = omega (arith, ints)
sum_le f g a (suc n) h = omega (arith, ints, h a (omega arith) (omega arith), sum_le f g (a + 1) n (λ i low high. h i (omega (arith, low)) (omega (arith, high))))
