-- Sums over the terms of a row, over its entries, and over the cost.
use Rattle.std.proofs.Common.{ℕ, zero, suc, ◌+◌, ◌<◌, ◌≡◌, refl, sym, ap, subst, ◌∙◌, inl, inr, arith, ℤ, pos, ◌+ℤ◌, ◌*ℤ◌, List, [], ◌∷◌, length, get_or, map, filter, cond, eqb, false}
use Rattle.std.specs.List.{range_with_len, AllByRecursion}
use Rattle.std.specs.Ordering.{int_eq}
use Rattle.std.proofs.Math.IntN.{+ℤ_idl, +ℤ_idr, zero-*ℤ}
use Rattle.std.proofs.lemmas.Bool.{cases_Bool, cond-true, cond-false, not-false, eq-eqb, ne_eqb}
use Rattle.std.proofs.lemmas.Bool.Decides.{Decides-int_eq}
use Rattle.std.proofs.lemmas.Int.{ints}
use Rattle.lp_base.specs.Sums.{sum_over, dot}
use Rattle.lp_base.proofs.Ring.{mul_add_right}
use Rattle.lpcc_case.specs.Points.{left_side}
use Rattle.decks.specs.declared.deck.Entry.{Entry}
use Rattle.lpcc_case.specs.Points.{coefficient}
use Rattle.deck_case.specs.CaseParts.{is_nonzero, terms_of}
use Rattle.deck_case.specs.Multipliers.{times}
use Rattle.deck_case.proofs.RationalLaws.{IsWhole, zero_times}

-- ---- the terms of entries have the sum of the entries

abbrev column_at : List ℤ → ℕ → ℤ
column_at x j = get_or x j (pos 0)

abbrev pub entry_sum : ℕ → List ℤ → List Entry → ℤ
entry_sum m x es = sum_over (λ e. times m e.value *ℤ column_at x e.column) es

zero_entry : (m : ℕ) (e : Entry) (z : ℤ) → IsWhole m e.value → is_nonzero e ≡ false → pos 0 ≡ times m e.value *ℤ z
zero_entry m e z h dropped =
    let none : e.value.num ≡ pos 0 = (Decides-int_eq e.value.num (pos 0)).0 (not-false (int_eq e.value.num (pos 0)) dropped) in
    sym (ap (λ v. v *ℤ z) (zero_times m e.value h none) ∙ zero-*ℤ z)

pub terms_sum : (m : ℕ) (x : List ℤ) (es : List Entry) → AllByRecursion (λ (e : Entry). IsWhole m e.value) es → left_side (terms_of m es) x ≡ entry_sum m x es
terms_sum m x [] h = refl
terms_sum m x (e ∷ es) h =
    let head = times m e.value *ℤ column_at x e.column in
    let rest = terms_sum m x es h.1 in
    elim (cases_Bool (is_nonzero e)) [
      | inl kept ↦ ap (λ l. left_side (map (λ e. (e.column, times m e.value)) l) x) (cond-true (is_nonzero e) (e ∷ filter is_nonzero es) (filter is_nonzero es) kept) ∙ ap (λ z. head +ℤ z) rest
      | inr dropped ↦
          ap (λ l. left_side (map (λ e. (e.column, times m e.value)) l) x) (cond-false (is_nonzero e) (e ∷ filter is_nonzero es) (filter is_nonzero es) dropped)
          ∙ rest
          ∙ sym (+ℤ_idl (entry_sum m x es))
          ∙ ap (λ z. z +ℤ entry_sum m x es) (zero_entry m e (column_at x e.column) h.0 dropped)
    ]

-- ---- a row written out column by column has the sum of its terms

-- the row that f gives from place a on
abbrev dense : (ℕ → ℤ) → ℕ → List ℤ → ℤ
dense f a [] = pos 0
dense f a (v ∷ x) = (f a *ℤ v) +ℤ dense f (a + 1) x

dot_dense : (f : ℕ → ℤ) (a : ℕ) (x : List ℤ) → dot (map f (range_with_len a (length x))) x ≡ dense f a x
dot_dense f a [] = refl
dot_dense f a (v ∷ x) = ap (λ z. (f a *ℤ v) +ℤ z) (dot_dense f (a + 1) x)

dense-zero : (a : ℕ) (x : List ℤ) → dense (λ _. pos 0) a x ≡ pos 0
dense-zero a [] = refl
dense-zero a (v ∷ x) = ap (λ z. z +ℤ dense (λ _. pos 0) (a + 1) x) (zero-*ℤ v) ∙ +ℤ_idl (dense (λ _. pos 0) (a + 1) x) ∙ dense-zero (a + 1) x

dense-add : (f g : ℕ → ℤ) (a : ℕ) (x : List ℤ) → dense (λ j. f j +ℤ g j) a x ≡ dense f a x +ℤ dense g a x
dense-add f g a [] = refl
dense-add f g a (v ∷ x) = omega (arith, ints, mul_add_right v (f a) (g a), dense-add f g (a + 1) x)

-- a row with one number
abbrev one_term : ℕ × ℤ → ℕ → ℤ
one_term t j = cond (eqb t.0 j) t.1 (pos 0)

-- none of its columns is past the number
dense-past : (t : ℕ × ℤ) (a : ℕ) (x : List ℤ) → t.0 < a → dense (one_term t) a x ≡ pos 0
dense-past t a [] h = refl
dense-past t a (v ∷ x) h =
    let none : one_term t a ≡ pos 0 = ap (λ b. cond b t.1 (pos 0)) (ne_eqb t.0 a (omega arith)) in
    ap (λ z. (z *ℤ v) +ℤ dense (one_term t) (a + 1) x) none ∙ ap (λ z. z +ℤ dense (one_term t) (a + 1) x) (zero-*ℤ v) ∙ +ℤ_idl (dense (one_term t) (a + 1) x) ∙ dense-past t (a + 1) x (omega arith)

dense-one : (t : ℕ × ℤ) (a i : ℕ) (x : List ℤ) → t.0 ≡ a + i → i < length x → dense (one_term t) a x ≡ t.1 *ℤ get_or x i (pos 0)
dense-one t a i [] e h = absurd (omega arith)
dense-one t a zero (v ∷ x) e h =
    let here : one_term t a ≡ t.1 = ap (λ b. cond b t.1 (pos 0)) (eq-eqb t.0 a (omega arith)) in
    ap (λ z. (z *ℤ v) +ℤ dense (one_term t) (a + 1) x) here ∙ ap (λ z. (t.1 *ℤ v) +ℤ z) (dense-past t (a + 1) x (omega arith)) ∙ +ℤ_idr (t.1 *ℤ v)
dense-one t a (suc i) (v ∷ x) e h =
    let none : one_term t a ≡ pos 0 = ap (λ b. cond b t.1 (pos 0)) (ne_eqb t.0 a (omega arith)) in
    ap (λ z. (z *ℤ v) +ℤ dense (one_term t) (a + 1) x) none ∙ ap (λ z. z +ℤ dense (one_term t) (a + 1) x) (zero-*ℤ v) ∙ +ℤ_idl (dense (one_term t) (a + 1) x) ∙ dense-one t (a + 1) i x (omega arith) (omega arith)

dense-coefficient : (ts : List (ℕ × ℤ)) (x : List ℤ) → AllByRecursion (λ t. t.0 < length x) ts → dense (coefficient ts) 0 x ≡ left_side ts x
dense-coefficient [] x h = dense-zero 0 x
dense-coefficient (t ∷ ts) x h =
    dense-add (one_term t) (coefficient ts) 0 x
    ∙ ap (λ z. z +ℤ dense (coefficient ts) 0 x) (dense-one t 0 t.0 x (omega arith) h.0)
    ∙ ap (λ z. (t.1 *ℤ column_at x t.0) +ℤ z) (dense-coefficient ts x h.1)

pub dot_coefficient : (ts : List (ℕ × ℤ)) (x : List ℤ) (n : ℕ) → length x ≡ n → AllByRecursion (λ t. t.0 < n) ts → dot (map (coefficient ts) (range_with_len 0 n)) x ≡ left_side ts x
dot_coefficient ts x n e h =
    ap (λ m. dot (map (coefficient ts) (range_with_len 0 m)) x) (sym e)
    ∙ dot_dense (coefficient ts) 0 x
    ∙ dense-coefficient ts x (subst (λ m. AllByRecursion (λ t. t.0 < m) ts) (sym e) h)
