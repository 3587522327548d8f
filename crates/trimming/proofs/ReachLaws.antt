-- Marks of the steps that are reached.
use Rattle.std.proofs.Common.{inl, inr, ℕ, ◌+◌, ◌<◌, ◌≤◌, ◌≡◌, sym, ap, ◌∙◌, subst, arith, Bool, true, false, List, [], length, get_or, take}
use Rattle.std.specs.Prelude.{◌⊎◌, Contains}
use Rattle.std.proofs.lemmas.Bool.{cases_lt}
use Rattle.std.proofs.lemmas.List.{take_all, get_or_default, get_or-take, length-take-le}
use Rattle.std.proofs.lemmas.List.Elements.{All-more, All-weaker}
use Rattle.nogoods.specs.declared.choice.Choice.{Choice}
use Rattle.derivation.specs.declared.step.Step.{Step}
use Rattle.trimming.specs.Marks.{HintsMarked, IsClosedFrom}
use Rattle.trimming.specs.Trimmed.{hints_of, step_at}

abbrev pub Stay : List Bool → List Bool → Type 0
Stay old new = (j : ℕ) → get_or old j false ≡ true → get_or new j false ≡ true

pub hints_still : (old new : List Bool) (k : ℕ) (hints : List ℕ) → Stay old new → HintsMarked old k hints → HintsMarked new k hints
hints_still old new k hints stay all = All-weaker (λ h. h < k → get_or old h false ≡ true) (λ h. h < k → get_or new h false ≡ true) (λ h marked low. stay h (marked low)) hints all

pub hints_more : (old new : List Bool) (k : ℕ) (hints : List ℕ) (i : ℕ) → i < length hints → Stay old new → (get_or hints i 0 < k → get_or new (get_or hints i 0) false ≡ true) → HintsMarked old k (take i hints) → HintsMarked new k (take (i + 1) hints)
hints_more old new k hints i inside stay here all = All-more (λ h. h < k → get_or new h false ≡ true) hints i 0 inside (hints_still old new k (take i hints) stay all) here

pub hints_all : (marks : List Bool) (k : ℕ) (hints : List ℕ) (i : ℕ) → length hints ≤ i → HintsMarked marks k (take i hints) → HintsMarked marks k hints
hints_all marks k hints i past all =
    let P : List ℕ → Type 0 = λ l. HintsMarked marks k l in
    subst P (take_all i hints past) all

-- a step whose hints have been marked
pub closed_marked : (log : List Step) (old new : List Bool) (k : ℕ) → IsClosedFrom (k + 1) log old → Stay old new → ((j : ℕ) → k ≤ j → get_or new j false ≡ get_or old j false) → HintsMarked new k (hints_of (step_at log k)) → IsClosedFrom k log new
closed_marked log old new k closed stay others here j low marked = elim (cases_lt k j) [
  | inl above ↦ hints_still old new j (hints_of (step_at log j)) stay (closed j (omega arith) (sym (others j low) ∙ marked))
  | inr not_above ↦
      let e : k ≡ j = omega arith in
      let P : ℕ → Type 0 = λ i. HintsMarked new i (hints_of (step_at log i)) in
      subst P e here
]

-- a step that is not marked
pub closed_past : (log : List Step) (marks : List Bool) (k : ℕ) → IsClosedFrom (k + 1) log marks → get_or marks k false ≡ false → IsClosedFrom k log marks
closed_past log marks k closed unmarked j low marked = elim (cases_lt k j) [
  | inl above ↦ closed j (omega arith) marked
  | inr not_above ↦
      let e : k ≡ j = omega arith in
      absurd (cc (ap (λ i. get_or marks i false) e))
]

pub none_empty : (ngs : List (List Choice)) (n : ℕ) → Contains ngs [] → length ngs ≤ n → ((k : ℕ) → k < n → ¬ (get_or ngs k [] ≡ [])) → ⊥
none_empty ngs n found all none = none found.0 (omega (arith, found.1)) found.2

-- only hints become marked
pub only_more : (first old new : List Bool) (hints : List ℕ) (i : ℕ) → i < length hints → ((j : ℕ) → get_or new j false ≡ true → (get_or old j false ≡ true) ⊎ (j ≡ get_or hints i 0)) → ((j : ℕ) → get_or old j false ≡ true → (get_or first j false ≡ true) ⊎ Contains (take i hints) j) → (j : ℕ) → get_or new j false ≡ true → (get_or first j false ≡ true) ⊎ Contains (take (i + 1) hints) j
only_more first old new hints i inside here before j now =
    let size : length (take (i + 1) hints) ≡ i + 1 = length-take-le (i + 1) hints (omega arith) in
    elim (here j now) [
      | inl earlier ↦ elim (before j earlier) [
        | inl at_first ↦ inl at_first
        | inr c ↦
            let low : c.0 < i = omega (arith, c.1, length-take-le i hints (omega arith)) in
            inr (c.0, omega (arith, low, size), get_or-take (i + 1) hints c.0 j (omega (arith, low)) ∙ sym (get_or-take i hints c.0 j low) ∙ c.2)
      ]
      | inr same ↦ inr (i, omega (arith, size), get_or-take (i + 1) hints i j (omega arith) ∙ get_or_default hints i j 0 inside ∙ sym same)
    ]

pub only_all : (first new : List Bool) (hints : List ℕ) (i : ℕ) → length hints ≤ i → ((j : ℕ) → get_or new j false ≡ true → (get_or first j false ≡ true) ⊎ Contains (take i hints) j) → (j : ℕ) → get_or new j false ≡ true → (get_or first j false ≡ true) ⊎ Contains hints j
only_all first new hints i past all =
    let P : List ℕ → Type 0 = λ l. (j : ℕ) → get_or new j false ≡ true → (get_or first j false ≡ true) ⊎ Contains l j in
    subst P (take_all i hints past) all
