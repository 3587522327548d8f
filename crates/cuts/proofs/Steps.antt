-- The steps of the loops over terms and over multipliers.
use Rattle.std.proofs.Common.{ℕ, zero, suc, ◌+◌, ◌^◌, ◌<◌, ◌≡◌, refl, sym, ap, ◌∙◌, arith, ℤ, pos, ◌+ℤ◌, ◌*ℤ◌, IsTrue, inl, inr, List, length, get_or, set, take, replicate, to_z, of_z}
use Rattle.std.specs.Prelude.{unsigned_abs}
use Rattle.std.proofs.lemmas.Bool.{cases_lt, cases_eq}
use Rattle.std.proofs.lemmas.List.{get_or-set_same, get_or-set_other, length-set, get_or_past, get_or_read, take_all}
use Rattle.std.proofs.Math.IntN.{+ℤ_idr, +ℤ_assoc, *ℤ-zero}
use mir.Syntax.{w64, w128}
use Rattle.lp_base.specs.Ascending.{ascends_by, number_of}
use Rattle.lp_base.specs.Numbers.{IsNarrow}
use Rattle.lp_base.proofs.Ring.{mul_add_left, abs_add, abs_mul}
use Rattle.lp_base.proofs.Machine.{again, narrow_again, same_bits}
use Rattle.lp_base.proofs.SumLaws.{sum_over-more}
use Rattle.lpcc_case.specs.declared.constraint.Constraint.{Constraint}
use Rattle.lpcc_case.specs.Instance.{Instance, constraint_at, no_constraint}
use Rattle.lpcc_case.specs.Cases.{IsCase, FitsCase}
use Rattle.lpcc_case.specs.Points.{coefficient}
use Rattle.lpcc_case.proofs.Members.{constraint_of_case}
use Rattle.lpcc_case.proofs.Products.{fitting_again}
use Rattle.lpcc_case.proofs.Shares.{share, share_at, share_other}
use Rattle.cuts.specs.Cuts.{column_sum, right_sum, AreMultipliers}
use Rattle.cuts.proofs.Columns.{coefficient_before, column_sum_small, right_sum_small}

-- a list of one value only
pub get_or-same : {A : Type 0} (n j : ℕ) (d : A) → get_or (replicate n d) j d ≡ d
get_or-same zero j d = refl
get_or-same (suc n) zero d = refl
get_or-same (suc n) (suc j) d = get_or-same n j d

-- ---- the machine's numbers

-- a product more, read again
pub added : (r s y a : ℤ) → r ≡ s +ℤ (to_z w64 (of_z w64 y) *ℤ to_z w64 (of_z w64 a)) → unsigned_abs s < 2 ^ 126 → IsNarrow y → FitsCase a → to_z w128 (of_z w128 r) ≡ s +ℤ (y *ℤ a)
added r s y a e hs hy ha =
    let value : r ≡ s +ℤ (y *ℤ a) = e ∙ rw (narrow_again y hy, fitting_again a ha) refl in
    let small : unsigned_abs (s +ℤ (y *ℤ a)) < 2 ^ 127 = omega (arith, abs_add s (y *ℤ a), abs_mul y a (2 ^ 63) (2 ^ 52) (omega (arith, hy)) ha) in
    rw value (again (s +ℤ (y *ℤ a)) small)

-- ---- the loop over the terms of a constraint

-- each sum is the old one and y times the terms
abbrev pub HoldsTerms : List ℤ → List ℤ → ℤ → List (ℕ × ℤ) → Type 0
HoldsTerms sums old y terms = (j : ℕ) → j < length sums → get_or sums j (pos 0) ≡ (get_or old j (pos 0) +ℤ (y *ℤ coefficient terms j))

-- the sum of the next term's column is still the old one
pub room_at : (sums old : List ℤ) (y : ℤ) (ts : List (ℕ × ℤ)) (i : ℕ) → IsTrue (ascends_by number_of ts) → i < length ts → (get_or ts i (0, pos 0)).0 < length sums → HoldsTerms sums old y (take i ts) → unsigned_abs (get_or old (get_or ts i (0, pos 0)).0 (pos 0)) < 2 ^ 126 → unsigned_abs (get_or sums (get_or ts i (0, pos 0)).0 (pos 0)) < 2 ^ 126
room_at sums old y ts i asc h within holds room =
    rw (holds (get_or ts i (0, pos 0)).0 within, coefficient_before ts i (0, pos 0) asc h, *ℤ-zero y, +ℤ_idr (get_or old (get_or ts i (0, pos 0)).0 (pos 0))) room

holds_step : (sums old : List ℤ) (y r : ℤ) (ts : List (ℕ × ℤ)) (t : ℕ × ℤ) (i j : ℕ) → coefficient (take (i + 1) ts) j ≡ coefficient (take i ts) j +ℤ share t j → t.0 < length sums → HoldsTerms sums old y (take i ts) → r ≡ get_or sums t.0 (pos 0) +ℤ (y *ℤ t.1) → j < length sums → get_or (set sums t.0 r) j (pos 0) ≡ get_or old j (pos 0) +ℤ (y *ℤ coefficient (take (i + 1) ts) j)
holds_step sums old y r ts t i j more within holds e lt =
    elim (cases_eq j t.0) as (λ _. get_or (set sums t.0 r) j (pos 0) ≡ get_or old j (pos 0) +ℤ (y *ℤ coefficient (take (i + 1) ts) j)) [
      | inl same ↦
          let k = t.0 in
          let C = coefficient (take i ts) k in
          let more_k : coefficient (take (i + 1) ts) k ≡ C +ℤ t.1 = rw same at more ∙ ap (λ z. C +ℤ z) (share_at k t.1) in
          rw (same, get_or-set_same sums k r (pos 0) within, more_k, mul_add_left y C t.1, e, holds k within) (+ℤ_assoc (get_or old k (pos 0)) (y *ℤ C) (y *ℤ t.1))
      | inr other ↦
          let C = coefficient (take i ts) j in
          let more_j : coefficient (take (i + 1) ts) j ≡ C = more ∙ ap (λ z. C +ℤ z) (share_other t.0 j t.1 other) ∙ +ℤ_idr C in
          rw (get_or-set_other sums t.0 j r (pos 0) other, more_j) (holds j lt)
    ]

pub holds_more : (sums old : List ℤ) (y r : ℤ) (ts : List (ℕ × ℤ)) (i : ℕ) → i < length ts → (get_or ts i (0, pos 0)).0 < length sums → HoldsTerms sums old y (take i ts) → r ≡ get_or sums (get_or ts i (0, pos 0)).0 (pos 0) +ℤ (y *ℤ (get_or ts i (0, pos 0)).1) → HoldsTerms (set sums (get_or ts i (0, pos 0)).0 r) old y (take (i + 1) ts)
holds_more sums old y r ts i h within holds e j lt =
    holds_step sums old y r ts (get_or ts i (0, pos 0)) i j (sum_over-more (λ t. share t j) ts i (0, pos 0) h) within holds e (rw (length-set sums (get_or ts i (0, pos 0)).0 r) at lt)

-- ---- the loops over the multipliers

-- the sums of the first i multipliers
abbrev pub HoldsColumns : Instance → List ℤ → List (ℕ × ℤ) → Type 0
HoldsColumns a sums mult = (j : ℕ) → j < length sums → get_or sums j (pos 0) ≡ column_sum a mult j

pub columns_small : (a : Instance) (sums : List ℤ) (mult : List (ℕ × ℤ)) (i : ℕ) → IsCase a → AreMultipliers a mult → HoldsColumns a sums (take i mult) → (j : ℕ) → unsigned_abs (get_or sums j (pos 0)) < 2 ^ 126
columns_small a sums mult i kept h holds j =
    elim (cases_lt j (length sums)) [
      | inl lt ↦ rw (holds j lt) (column_sum_small a mult i j kept h)
      | inr past ↦ rw (get_or_past sums j (pos 0) past) (omega arith)
    ]

-- what the code reads of a constraint
read_constraint : (a : Instance) (k : ℕ) (cs : List Constraint) (c : Constraint) → k < length a.constraints → cs ≡ a.constraints → c ≡ get_or cs k c → c ≡ constraint_at a k
read_constraint a k cs c h same read = get_or_read a.constraints k c h (rw same at read) no_constraint

pub columns_more : (a : Instance) (mult : List (ℕ × ℤ)) (i : ℕ) (sums new : List ℤ) (cs : List Constraint) (c : Constraint) (ts : List (ℕ × ℤ)) → AreMultipliers a mult → i < length mult → length new ≡ length sums → HoldsColumns a sums (take i mult) → cs ≡ a.constraints → c ≡ get_or cs (get_or mult i (0, pos 0)).0 c → ts ≡ c.terms → ((j : ℕ) → j < length sums → get_or new j (pos 0) ≡ get_or sums j (pos 0) +ℤ (to_z w64 (of_z w64 (get_or mult i (0, pos 0)).1) *ℤ coefficient ts j)) → HoldsColumns a new (take (i + 1) mult)
columns_more a mult i sums new cs c ts h lt size holds same read terms adds j within =
    let m = get_or mult i (0, pos 0) in
    let narrow = narrow_again m.1 (h.numbers i (0, pos 0) lt).0 in
    let here = read_constraint a m.0 cs c (h.constraints_named i (0, pos 0) lt) same read in
    let terms_here : ts ≡ (constraint_at a m.0).terms = terms ∙ ap (λ (z : Constraint). z.terms) here in
    let within_old : j < length sums = omega arith in
    adds j within_old ∙ rw (narrow, terms_here, holds j within_old) (sym (sum_over-more (λ n. n.1 *ℤ coefficient (constraint_at a n.0).terms j) mult i (0, pos 0) lt))

pub right_more : (a : Instance) (mult : List (ℕ × ℤ)) (i : ℕ) (s r : ℤ) (cs : List Constraint) (c : Constraint) → IsCase a → AreMultipliers a mult → i < length mult → s ≡ right_sum a (take i mult) → cs ≡ a.constraints → c ≡ get_or cs (get_or mult i (0, pos 0)).0 c → r ≡ s +ℤ (to_z w64 (of_z w64 (get_or mult i (0, pos 0)).1) *ℤ to_z w64 (of_z w64 c.rhs)) → to_z w128 (of_z w128 r) ≡ right_sum a (take (i + 1) mult)
right_more a mult i s r cs c kept h lt so_far same read e =
    let m = get_or mult i (0, pos 0) in
    let named = h.constraints_named i (0, pos 0) lt in
    let here = read_constraint a m.0 cs c named same read in
    let small : unsigned_abs s < 2 ^ 126 = rw so_far (right_sum_small a mult i kept h) in
    let fits : FitsCase c.rhs = rw here ((constraint_of_case a m.0 kept named).right) in
    added r s m.1 c.rhs e small (h.numbers i (0, pos 0) lt).0 fits ∙ rw (so_far, here) (sym (sum_over-more (λ n. n.1 *ℤ (constraint_at a n.0).rhs) mult i (0, pos 0) lt))

-- the sum of a column and a multiple of its cost have the same bits
pub multiple_here : (a : Instance) (mult : List (ℕ × ℤ)) (e s p : ℤ) (cost : List ℤ) (j : ℕ) → IsCase a → AreMultipliers a mult → IsNarrow e → j < length cost → cost ≡ a.cost → s ≡ column_sum a mult j → p ≡ e *ℤ to_z w64 (of_z w64 (get_or cost j (pos 0))) → of_z w128 s ≡ of_z w128 p → column_sum a mult j ≡ e *ℤ get_or a.cost j (pos 0)
multiple_here a mult e s p cost j kept h narrow lt same sum product bits =
    let fits : FitsCase (get_or a.cost j (pos 0)) = kept.costs j (pos 0) (rw same at lt) in
    let value : p ≡ e *ℤ get_or a.cost j (pos 0) = product ∙ rw (same, fitting_again (get_or a.cost j (pos 0)) fits) refl in
    let p_small : unsigned_abs p < 2 ^ 127 = rw value (omega (arith, abs_mul e (get_or a.cost j (pos 0)) (2 ^ 63) (2 ^ 52) (omega (arith, narrow)) fits)) in
    let all = take_all (length mult) mult (omega arith) in
    let s_small : unsigned_abs s < 2 ^ 127 = rw (sum, ← all) (omega (arith, column_sum_small a mult (length mult) j kept h)) in
    sym sum ∙ same_bits s p s_small p_small bits ∙ value
