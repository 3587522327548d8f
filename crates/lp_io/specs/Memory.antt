-- Sources and sinks in memory, whose failing calls are chosen.
use Rattle.std.specs.Prelude.{◌≡◌, ◌<◌, ◌-◌, ◌^◌, if◌then◌else◌, ℕ, List, Contains, Result, is_ok}
use Rattle.lp_io.specs.Faults.{one_more}

-- the call of this number is one of those that fail
abbrev pub IsToFail : List ℕ → ℕ → Type 0
IsToFail fails call = (call < 2 ^ 64 - 1) × Contains fails call

-- each call is counted, and each that failed is counted as a fault besides
pub record CountsCall {T E : Type 0} (calls faults new_calls new_faults : ℕ) (result : Result T E) : Type 0 where
  pub called : new_calls ≡ one_more calls
  pub failed : new_faults ≡ (if is_ok result then faults else one_more faults)
