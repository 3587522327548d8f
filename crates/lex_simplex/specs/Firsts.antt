-- Of the terms of a row the first, in the order of forms, for which something holds.
use Rattle.std.specs.Prelude.{◌≢◌, ◌<◌, ◌≤◌, ℕ, ℤ, pos, Bool, false, not, List, length, slice_index_or, IsTrue, Option, Some, None}
use Rattle.nogoods.specs.declared.choice.Choice.{Choice}
use Rattle.lpcc_case.specs.Instance.{Instance}
use Rattle.lpcc_case.specs.declared.form.Form.{Form}
use Rattle.lpcc_case.specs.declared.form.Form.TheVariants.{Col, Con, Cost}
use Rattle.dict.specs.Dictionaries.{Dictionary, form_at, entry_at}
use Rattle.walks.specs.Values.{is_fixed}
use Rattle.lpcc_case.specs.Forms.{number}

-- the place of term i of a row
abbrev pub place_at : List (ℕ × ℤ) → ℕ → ℕ
place_at ts i = (slice_index_or ts i (0, pos 0)).0

-- of the places of the first i terms for which P holds, that of the first form, or none
abbrev pub FirstAmong : Instance → List Form → List (ℕ × ℤ) → (ℕ → Type 0) → ℕ → Option ℕ → Type 0
FirstAmong a forms ts P i None = (k : ℕ) → k < i → P (place_at ts k) → ⊥
FirstAmong a forms ts P i (Some b) = (b < length forms) × P b × ((k : ℕ) → k < i → P (place_at ts k) → number a (form_at forms b) ≤ number a (form_at forms (place_at ts k)))

-- a constraint that is not fixed: it has an eps of its own
abbrev pub is_loose : Instance → List Choice → Form → Bool
is_loose a tight (Col j) = false
is_loose a tight (Con k) = not (is_fixed a tight k)
is_loose a tight Cost = false

-- the form at this place gives an eps to the value of the row
abbrev pub HasEps : Instance → List Choice → Dictionary → ℕ → ℕ → Type 0
HasEps a tight d row j = IsTrue (is_loose a tight (form_at d.nonbasic j)) × (entry_at d row j ≢ pos 0)
