-- How the cost grows term by term.
use Rattle.std.proofs.Common.{ℕ, zero, suc, ◌+◌, ◌<◌, ◌≡◌, ◌≢◌, refl, sym, ap, subst, ◌∙◌, inl, inr, arith, ℤ, pos, ◌+ℤ◌, List, [], ◌∷◌, length, get_or, set, take, cond, eqb, get_or-set_same, get_or-set_other}
use Rattle.std.specs.Prelude.{IsTrue}
use Rattle.std.proofs.Math.IntN.{+ℤ_idl, +ℤ_idr}
use Rattle.std.proofs.lemmas.Bool.{cases_eq, eq-eqb, ne_eqb}
use Rattle.std.proofs.lemmas.List.{take_more}
use Rattle.std.proofs.lemmas.List.Elements.{recursion_from_All}
use Rattle.std.specs.List.{AllByRecursion}
use Rattle.lp_base.specs.Ascending.{ascends_by, number_of}
use Rattle.lp_base.proofs.SumLaws.{sum_over-append}
use Rattle.deck_case.proofs.Rising.{ascends-tail, head_below}
use Rattle.lpcc_case.specs.Points.{coefficient}

-- what a term adds to the coefficient of a column
abbrev part : ℕ → ℕ × ℤ → ℤ
part j t = cond (eqb t.0 j) t.1 (pos 0)

part_other : (t : ℕ × ℤ) (j : ℕ) → t.0 ≢ j → part j t ≡ pos 0
part_other t j h = ap (λ b. cond b t.1 (pos 0)) (ne_eqb t.0 j h)

part_same : (t : ℕ × ℤ) (j : ℕ) → t.0 ≡ j → part j t ≡ t.1
part_same t j h = ap (λ b. cond b t.1 (pos 0)) (eq-eqb t.0 j h)

-- none of the terms before place i has the column of place i
pub front_absent : (ts : List (ℕ × ℤ)) (i : ℕ) (d : ℕ × ℤ) → IsTrue (ascends_by number_of ts) → i < length ts → coefficient (take i ts) (get_or ts i d).0 ≡ pos 0
front_absent [] i d h k = absurd (omega arith)
front_absent (t ∷ ts) zero d h k = refl
front_absent (t ∷ ts) (suc i) d h k =
    let column = (get_or ts i d).0 in
    let below : t.0 < column = head_below number_of t ts i d h (omega arith) in
    ap (λ z. z +ℤ coefficient (take i ts) column) (part_other t column (omega arith))
    ∙ +ℤ_idl (coefficient (take i ts) column)
    ∙ front_absent ts i d (ascends-tail number_of t ts h) (omega arith)

pub coefficient-more : (ts : List (ℕ × ℤ)) (i j : ℕ) (d : ℕ × ℤ) → i < length ts → coefficient (take (i + 1) ts) j ≡ coefficient (take i ts) j +ℤ part j (get_or ts i d)
coefficient-more ts i j d h =
    ap (λ l. coefficient l j) (take_more ts i d h)
    ∙ sum_over-append (part j) (take i ts) (get_or ts i d ∷ [])
    ∙ ap (λ z. coefficient (take i ts) j +ℤ z) (+ℤ_idr (part j (get_or ts i d)))

-- to write the value of place i at its column is to go one term on
pub written : (row : List ℤ) (ts : List (ℕ × ℤ)) (i j : ℕ) (d : ℕ × ℤ) (z : ℤ) → IsTrue (ascends_by number_of ts) → i < length ts → j < length row → z ≡ (get_or ts i d).1 → get_or row j (pos 0) ≡ coefficient (take i ts) j → get_or (set row (get_or ts i d).0 z) j (pos 0) ≡ coefficient (take (i + 1) ts) j
written row ts i j d z h k l e f =
    let t = get_or ts i d in
    let more = coefficient-more ts i j d k in
    elim (cases_eq t.0 j) [
      | inl same ↦
          let none : coefficient (take i ts) j ≡ pos 0 = ap (coefficient (take i ts)) (sym same) ∙ front_absent ts i d h k in
          let sum : coefficient (take (i + 1) ts) j ≡ t.1 = more ∙ ap (λ y. y +ℤ part j t) none ∙ +ℤ_idl (part j t) ∙ part_same t j same in
          let at : get_or (set row t.0 z) t.0 (pos 0) ≡ z = get_or-set_same row t.0 z (pos 0) (omega arith) in
          ap (λ n. get_or (set row t.0 z) n (pos 0)) (sym same) ∙ at ∙ e ∙ sym sum
      | inr other ↦
          let sum : coefficient (take (i + 1) ts) j ≡ coefficient (take i ts) j = more ∙ ap (λ y. coefficient (take i ts) j +ℤ y) (part_other t j other) ∙ +ℤ_idr (coefficient (take i ts) j) in
          get_or-set_other row t.0 j z (pos 0) (λ e. other (sym e)) ∙ f ∙ sym sum
    ]

-- ---- the coefficients of ascending terms are their values or 0

absent : (ts : List (ℕ × ℤ)) (j : ℕ) → AllByRecursion (λ t. j < t.0) ts → coefficient ts j ≡ pos 0
absent [] j h = refl
absent (t ∷ ts) j h = ap (λ y. y +ℤ coefficient ts j) (part_other t j (omega (arith, h.0))) ∙ +ℤ_idl (coefficient ts j) ∙ absent ts j h.1

pub coefficient_keeps : (P : ℤ → Type 0) (ts : List (ℕ × ℤ)) (j : ℕ) → P (pos 0) → IsTrue (ascends_by number_of ts) → AllByRecursion (λ t. P t.1) ts → P (coefficient ts j)
coefficient_keeps P [] j none h all = none
coefficient_keeps P (t ∷ ts) j none h all =
    elim (cases_eq t.0 j) [
      | inl same ↦
          let above : AllByRecursion (λ u. j < u.0) ts = recursion_from_All (λ u. j < u.0) ts (λ i d k. let b : t.0 < (get_or ts i d).0 = head_below number_of t ts i d h k in omega arith) in
          let sum : coefficient (t ∷ ts) j ≡ t.1 = ap (λ y. part j t +ℤ y) (absent ts j above) ∙ +ℤ_idr (part j t) ∙ part_same t j same in
          subst P (sym sum) all.0
      | inr other ↦
          let sum : coefficient (t ∷ ts) j ≡ coefficient ts j = ap (λ y. y +ℤ coefficient ts j) (part_other t j other) ∙ +ℤ_idl (coefficient ts j) in
          subst P (sym sum) (coefficient_keeps P ts j none (ascends-tail number_of t ts h) all.1)
    ]
