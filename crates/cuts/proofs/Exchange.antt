-- Sums over columns, and the exchange of two sums.
use Rattle.std.proofs.Common.{ℕ, zero, suc, ◌+◌, ◌<◌, ◌≡◌, refl, sym, ap, ◌∙◌, arith, ℤ, pos, ◌+ℤ◌, ◌*ℤ◌, List, [], ◌∷◌, length, get_or, add-one}
use Rattle.std.proofs.lemmas.Int.{ints}
use Rattle.std.proofs.Math.IntN.{+ℤ_idl, +ℤ_idr, zero-*ℤ, *ℤ-zero}
use Rattle.lp_base.specs.Sums.{sum_over, dot}
use Rattle.lp_base.proofs.Ring.{mul_add_right, mul_add_left, mul_assoc}
use Rattle.lpcc_case.specs.Instance.{Instance, constraint_at}
use Rattle.lpcc_case.specs.Points.{coefficient, left_side}
use Rattle.lpcc_case.proofs.Shares.{share, share_at, share_before, share_after}
use Rattle.cuts.specs.Cuts.{column_sum}

-- a number for each column, times x, from column i on
abbrev pub across : (ℕ → ℤ) → List ℤ → ℕ → ℤ
across f [] i = pos 0
across f (v ∷ x) i = (f i *ℤ v) +ℤ across f x (i + 1)

across_add : (f g : ℕ → ℤ) (x : List ℤ) (i : ℕ) → across (λ j. f j +ℤ g j) x i ≡ across f x i +ℤ across g x i
across_add f g [] i = refl
across_add f g (v ∷ x) i = omega (arith, ints, across_add f g x (i + 1), mul_add_right v (f i) (g i))

across_times : (y : ℤ) (f : ℕ → ℤ) (x : List ℤ) (i : ℕ) → across (λ j. y *ℤ f j) x i ≡ y *ℤ across f x i
across_times y f [] i = sym (*ℤ-zero y)
across_times y f (v ∷ x) i = omega (arith, ints, across_times y f x (i + 1), mul_assoc y (f i) v, mul_add_left y (f i *ℤ v) (across f x (i + 1)))

pub across_same : (f g : ℕ → ℤ) (x : List ℤ) (i : ℕ) → ((j : ℕ) → j < i + length x → f j ≡ g j) → across f x i ≡ across g x i
across_same f g [] i h = refl
across_same f g (v ∷ x) i h = rw (h i (omega arith), across_same f g x (i + 1) (λ j lt. h j (omega arith))) refl

pub across_zero : (x : List ℤ) (i : ℕ) → across (λ j. pos 0) x i ≡ pos 0
across_zero [] i = refl
across_zero (v ∷ x) i = rw (zero-*ℤ v, across_zero x (i + 1)) refl

-- a row with one number: that number times its column's value
across_past : (t : ℕ × ℤ) (x : List ℤ) (i : ℕ) → t.0 < i → across (share t) x i ≡ pos 0
across_past t [] i h = refl
across_past t (v ∷ x) i h = rw (share_before t.0 i t.1 h, zero-*ℤ v, across_past t x (i + 1) (omega arith)) refl

across_only : (n : ℕ) (t : ℕ × ℤ) (x : List ℤ) (i : ℕ) → t.0 ≡ i + n → across (share t) x i ≡ t.1 *ℤ get_or x n (pos 0)
across_only n t [] i e = sym (*ℤ-zero t.1)
across_only zero t (v ∷ x) i e =
    let at : t.0 ≡ i = omega arith in
    let here : share t i ≡ t.1 = rw (← at) (share_at t.0 t.1) in
    rw (here, across_past t x (i + 1) (omega arith)) (+ℤ_idr (t.1 *ℤ v))
across_only (suc n) t (v ∷ x) i e =
    let after : i < t.0 = omega arith in
    rw (share_after t.0 i t.1 after, zero-*ℤ v, +ℤ_idl (across (share t) x (i + 1))) (across_only n t x (i + 1) (omega arith))

-- a sum of rows times x is the sum of the products
exchange : {T : Type 0} (f : T → ℕ → ℤ) (ms : List T) (x : List ℤ) (i : ℕ) → sum_over (λ m. across (f m) x i) ms ≡ across (λ j. sum_over (λ m. f m j) ms) x i
exchange f [] x i = sym (across_zero x i)
exchange f (m ∷ ms) x i = ap (λ z. across (f m) x i +ℤ z) (exchange f ms x i) ∙ sym (across_add (f m) (λ j. sum_over (λ n. f n j) ms) x i)

sum_over-same : {T : Type 0} (f g : T → ℤ) → ((t : T) → f t ≡ g t) → (xs : List T) → sum_over f xs ≡ sum_over g xs
sum_over-same f g h [] = refl
sum_over-same f g h (x ∷ xs) = rw (h x, sum_over-same f g h xs) refl

-- a constraint's left side is the row of its coefficients times x
left_side_across : (ts : List (ℕ × ℤ)) (x : List ℤ) → left_side ts x ≡ across (coefficient ts) x 0
left_side_across ts x =
    sum_over-same (λ t. t.1 *ℤ get_or x t.0 (pos 0)) (λ t. across (share t) x 0) (λ t. sym (across_only t.0 t x 0 (omega arith))) ts ∙ exchange share ts x 0

-- the multipliers times the left sides
abbrev pub weighed : Instance → List (ℕ × ℤ) → List ℤ → ℤ
weighed a mult x = sum_over (λ m. m.1 *ℤ left_side (constraint_at a m.0).terms x) mult

-- the two sums exchanged
pub weighed_across : (a : Instance) (mult : List (ℕ × ℤ)) (x : List ℤ) → weighed a mult x ≡ across (column_sum a mult) x 0
weighed_across a mult x =
    sum_over-same (λ m. m.1 *ℤ left_side (constraint_at a m.0).terms x) (λ m. across (λ j. m.1 *ℤ coefficient (constraint_at a m.0).terms j) x 0)
    (λ m. ap (λ z. m.1 *ℤ z) (left_side_across (constraint_at a m.0).terms x) ∙ sym (across_times m.1 (coefficient (constraint_at a m.0).terms) x 0)) mult
    ∙ exchange (λ m j. m.1 *ℤ coefficient (constraint_at a m.0).terms j) mult x 0

across_shift : (f : ℕ → ℤ) (x : List ℤ) (i : ℕ) → across f x (i + 1) ≡ across (λ j. f (j + 1)) x i
across_shift f [] i = refl
across_shift f (v ∷ x) i = ap (λ z. (f (i + 1) *ℤ v) +ℤ z) (across_shift f x (i + 1))

-- a list of numbers as a row
across_list : (c x : List ℤ) → across (λ j. get_or c j (pos 0)) x 0 ≡ dot c x
across_list [] x = across_zero x 0
across_list (y ∷ c) [] = refl
across_list (y ∷ c) (v ∷ x) =
    let next = across_shift (λ j. get_or (y ∷ c) j (pos 0)) x 0 in
    let same = across_same (λ j. get_or (y ∷ c) (j + 1) (pos 0)) (λ j. get_or c j (pos 0)) x 0 (λ j lt. rw add-one refl) in
    ap (λ z. (y *ℤ v) +ℤ z) (next ∙ same ∙ across_list c x)

pub across_multiple : (e : ℤ) (c x : List ℤ) → across (λ j. e *ℤ get_or c j (pos 0)) x 0 ≡ e *ℤ dot c x
across_multiple e c x = across_times e (λ j. get_or c j (pos 0)) x 0 ∙ ap (λ z. e *ℤ z) (across_list c x)
