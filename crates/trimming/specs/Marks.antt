-- Marks of steps, and the places of the marked ones.
use Rattle.std.specs.Prelude.{◌≡◌, ◌<◌, ◌≤◌, ◌+◌, ℕ, All, Bool, true, false, List, [], ◌∷◌, ◌++◌, length, slice_index_or}
use Rattle.nogoods.specs.declared.choice.Choice.{Choice}
use Rattle.derivation.specs.declared.step.Step.{Step}
use Rattle.trimming.specs.Trimmed.{IsReached, hints_of, step_at}

-- each hint below k is marked
abbrev pub HintsMarked : List Bool → ℕ → List ℕ → Type 0
HintsMarked marks k hints = All (λ h. h < k → slice_index_or marks h false ≡ true) hints

-- from step k on, the hints of the marked steps are marked
abbrev pub IsClosedFrom : ℕ → List Step → List Bool → Type 0
IsClosedFrom k log marks = (j : ℕ) → k ≤ j → slice_index_or marks j false ≡ true → HintsMarked marks j (hints_of (step_at log j))

-- each marked step is reached
abbrev pub AreSound : List Step → ℕ → List Bool → Type 0
AreSound log e marks = (j : ℕ) → slice_index_or marks j false ≡ true → IsReached log e j

abbrev pub with_number : List ℕ → Bool → ℕ → List ℕ
with_number made true k = made ++ k ∷ []
with_number made false k = made

-- the numbers of the marks, counted from i
abbrev pub marked : ℕ → List Bool → List ℕ
marked i [] = []
marked i (true ∷ marks) = i ∷ marked (i + 1) marks
marked i (false ∷ marks) = marked (i + 1) marks

-- the no-good h stands in the other list at f h
abbrev pub Moves : List (List Choice) → List (List Choice) → (ℕ → ℕ) → ℕ → Type 0
Moves ngs made f h = (f h < length made) × (slice_index_or made (f h) [] ≡ slice_index_or ngs h [])

-- at each of these places stands its own place in the list
abbrev pub Numbers : List ℕ → List ℕ → Type 0
Numbers places numbers = (j : ℕ) → j < length places → slice_index_or numbers (slice_index_or places j 0) 0 ≡ j
