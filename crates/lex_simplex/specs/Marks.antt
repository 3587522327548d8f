-- A mark for each constraint: whether it is fixed.
use Rattle.std.specs.Prelude.{◌≡◌, ◌<◌, ℕ, Bool, false, List, length, slice_index_or}
use Rattle.nogoods.specs.declared.choice.Choice.{Choice}
use Rattle.lpcc_case.specs.Instance.{Instance}
use Rattle.walks.specs.Values.{is_fixed}

pub record AreMarks (a : Instance) (tight : List Choice) (marks : List Bool) : Type 0 where
  pub size : length marks ≡ length a.constraints
  pub fixed : (k : ℕ) → k < length marks → slice_index_or marks k false ≡ is_fixed a tight k
