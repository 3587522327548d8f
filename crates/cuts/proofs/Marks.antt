-- Marks on the constraints that are chosen.
use Rattle.std.proofs.Common.{ℕ, zero, suc, ◌+◌, ◌<◌, ◌≤◌, ◌≡◌, refl, sym, ◌∙◌, arith, Bool, true, false, IsTrue, inl, inr, List, [], ◌∷◌, length, get_or, set}
use Rattle.std.specs.Prelude.{Any}
use Rattle.std.proofs.lemmas.Bool.{cases_lt, cases_eq}
use Rattle.std.proofs.lemmas.List.{get_or-set_same, get_or-set_other, get_or_default}
use Rattle.nogoods.specs.declared.choice.Choice.{Choice}
use Rattle.lpcc_case.specs.Instance.{Instance, chosen_number}

-- a mark more keeps all others
set_true_keeps : (marks : List Bool) (k r : ℕ) → IsTrue (get_or marks k false) → IsTrue (get_or (set marks r true) k false)
set_true_keeps [] k r h = h
set_true_keeps (m ∷ ms) zero zero h = refl
set_true_keeps (m ∷ ms) zero (suc r) h = h
set_true_keeps (m ∷ ms) (suc k) zero h = h
set_true_keeps (m ∷ ms) (suc k) (suc r) h = set_true_keeps ms k r h

-- some choice makes constraint k tight
abbrev pub IsChosen : Instance → List Choice → ℕ → Type 0
IsChosen a choices k = Any (λ c. chosen_number a c ≡ k) choices

-- after the mark of choice i, each mark is of a choice
pub marks_from : (a : Instance) (choices : List Choice) (marks : List Bool) (i r : ℕ) (d : Choice) → i < length choices → r ≡ chosen_number a (get_or choices i d) → ((k : ℕ) → IsTrue (get_or marks k false) → IsChosen a choices k) → (k : ℕ) → IsTrue (get_or (set marks r true) k false) → IsChosen a choices k
marks_from a choices marks i r d h e from k marked =
    elim (cases_eq k r) [
      | inl same ↦ (i, get_or choices i d, h, get_or_default choices i (get_or choices i d) d h, sym e ∙ sym same)
      | inr other ↦ from k (rw (get_or-set_other marks r k true false other) at marked)
    ]

-- and each choice up to i is marked
pub marks_more : (a : Instance) (choices : List Choice) (marks : List Bool) (i r : ℕ) (d : Choice) → i < length choices → r < length marks → r ≡ chosen_number a (get_or choices i d) → ((n : ℕ) (e : Choice) → n < i → IsTrue (get_or marks (chosen_number a (get_or choices n e)) false)) → (n : ℕ) (e : Choice) → n < i + 1 → IsTrue (get_or (set marks r true) (chosen_number a (get_or choices n e)) false)
marks_more a choices marks i r d h room value marked n e lt =
    elim (cases_lt n i) [
      | inl before ↦ set_true_keeps marks (chosen_number a (get_or choices n e)) r (marked n e before)
      | inr past ↦
          let here : n ≡ i = omega arith in
          let same : get_or choices n e ≡ get_or choices i d = rw here (get_or_default choices i e d h) in
          rw (same, ← value) (get_or-set_same marks r true false room)
    ]

-- at the end the constraint of each choice is marked
pub mark_found : (a : Instance) (choices : List Choice) (marks : List Bool) (i k : ℕ) → length choices ≤ i → ((n : ℕ) (e : Choice) → n < i → IsTrue (get_or marks (chosen_number a (get_or choices n e)) false)) → IsChosen a choices k → IsTrue (get_or marks k false)
mark_found a choices marks i k all marked any =
    let at = marked any.0 any.1 (omega (arith, any.2)) in
    rw (any.3, any.4) at at
