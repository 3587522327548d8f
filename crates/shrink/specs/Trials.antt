-- Trials to drop a choice, and the reasons found so far.
use Rattle.std.specs.Prelude.{◌≡◌, ◌<◌, ℕ, List, Option, Some, IsSome, length, map, slice_get}
use Rattle.std.specs.List.{AllWithin, remove}
use Rattle.nogoods.specs.declared.choice.Choice.{Choice}
use Rattle.lpcc_case.specs.Instance.{Instance}
use Rattle.lpcc_case.specs.declared.point.Point.{Point}
use Rattle.cuts.specs.declared.cut.Cut.{Cut}
use Rattle.cuts.specs.declared.reason.Reason.{Reason}
use Rattle.cuts.specs.declared.reason.Reason.TheVariants as reason
use Rattle.reasons.specs.Reasons.{IsTrueReason, choice_kept}
use Rattle.probe.specs.Answers.{IsCutWithin}
use Rattle.shrink.specs.declared.trial.Trial.{Trial}
use Rattle.shrink.specs.declared.trial.Trial.TheVariants.{Dropped, Kept}

-- what the program of these choices shows: a cut, or a reason for the choice that is not among them
abbrev pub IsTrial : Instance → ℕ → Option Point → List Choice → Trial → Type 0
IsTrial a budget limit tight (Dropped cut) = IsCutWithin a limit tight cut
IsTrial a budget limit tight (Kept reason) = IsTrueReason a budget limit tight reason

-- a cut that does without one of these choices
abbrev pub IsSmaller : Instance → Option Point → List Choice → Cut → Type 0
IsSmaller a limit ng cut = (k : ℕ) × (k < length ng) × IsCutWithin a limit (remove ng k) cut

-- for each choice no reason yet, or one that is true for the other choices
pub record AreFound (a : Instance) (budget : ℕ) (limit : Option Point) (ng : List Choice) (found : List (Option Reason)) : Type 0 where
  pub size : length found ≡ length ng
  pub reasons : (k : ℕ) (r : Reason) → slice_get found k ≡ Some (Some r) → IsTrueReason a budget limit (remove ng k) r

-- the first n choices have a reason
abbrev pub HaveReasons : ℕ → List (Option Reason) → Type 0
HaveReasons n found = AllWithin IsSome found 0 n

-- a reason that stays true where choices are dropped: one that has a point
abbrev pub IsLasting : Reason → Type 0
IsLasting (reason.Below q) = Unit {0}
IsLasting (reason.Unbounded q ray) = Unit {0}
IsLasting (reason.Wide at) = ⊥
IsLasting (reason.Spent at) = ⊥

-- for each new choice no reason, or the one that it had among the old ones, where that lasts
pub record AreCarried (old new : List Choice) (found made : List (Option Reason)) : Type 0 where
  pub size : length made ≡ length new
  pub origin : (k : ℕ) (r : Reason) → slice_get made k ≡ Some (Some r) → IsLasting r × (p : ℕ) × (c : Choice) × (slice_get old p ≡ Some c) × (slice_get new k ≡ Some c) × (slice_get found p ≡ Some (Some r))

abbrev pub reason_kept : Choice × Reason → Option Reason
reason_kept k = Some k.1

-- each choice with its reason
pub record AreKept (ng : List Choice) (found : List (Option Reason)) (kept : List (Choice × Reason)) : Type 0 where
  pub names : map choice_kept kept ≡ ng
  pub reasons : map reason_kept kept ≡ found
