-- Tables that are kept beside a dictionary.
use Rattle.std.specs.Prelude.{◌≡◌, ◌<◌, ◌≤◌, ℕ, List, length, slice_index_or}
use Rattle.lpcc_case.specs.Instance.{Instance}
use Rattle.lpcc_case.specs.declared.form.Form.TheVariants.{Con}
use Rattle.dict.specs.Dictionaries.{Dictionary, form_at}

-- for each constraint its place among the nonbasic forms, or their number where it is none of them
pub record ArePlaces (a : Instance) (d : Dictionary) (places : List ℕ) : Type 0 where
  pub size : length places ≡ length a.constraints
  pub found : (k : ℕ) → k < length places → slice_index_or places k 0 < length d.nonbasic → form_at d.nonbasic (slice_index_or places k 0) ≡ Con k
  pub none : (k j : ℕ) → k < length places → length d.nonbasic ≤ slice_index_or places k 0 → j < length d.nonbasic → form_at d.nonbasic j ≡ Con k → ⊥
