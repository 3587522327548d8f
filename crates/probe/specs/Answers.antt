-- What an answer of the probe says.
use Rattle.std.specs.Prelude.{◌≤◌, List, All, Contains, Option, Some, length}
use Rattle.nogoods.specs.declared.choice.Choice.{Choice}
use Rattle.lpcc_case.specs.Instance.{Instance}
use Rattle.lpcc_case.specs.declared.point.Point.{Point}
use Rattle.cuts.specs.declared.cut.Cut.{Cut}
use Rattle.cuts.specs.Cuts.{Passes, no_good_of}
use Rattle.reasons.specs.Reasons.{IsActiveAgainst, IsPointIn, IsUnder}
use Rattle.probe.specs.declared.answer.Answer.{Answer}
use Rattle.probe.specs.declared.answer.Answer.TheVariants as answer
use Rattle.probe.specs.declared.answer.Least.{Least}
use Rattle.probe.specs.declared.answer.Least.TheVariants as least

-- a point of the system of these choices, lower than the limit where there is one
abbrev pub IsPointBelow : Instance → Option Point → List Choice → Point → Type 0
IsPointBelow a limit tight q = IsPointIn a tight q × IsUnder q limit

-- a cut that passes and is active, with choices among these
pub record IsCutWithin (a : Instance) (limit : Option Point) (tight : List Choice) (cut : Cut) : Type 0 where
  pub passes : Passes a cut
  pub active : IsActiveAgainst cut limit
  pub choices : All (Contains tight) (no_good_of cut)
  pub fewer : length (no_good_of cut) ≤ length tight

-- a cut by which the system of these choices has no point below the limit, or such a point, or nothing
abbrev pub IsAnswer : Instance → Option Point → List Choice → Answer → Type 0
IsAnswer a limit tight (answer.Cut cut) = IsCutWithin a limit tight cut
IsAnswer a limit tight (answer.Point q) = IsPointBelow a limit tight q
IsAnswer a limit tight answer.Unknown = Unit {0}

-- such a cut; or such a point and a cut by which none is lower than this one; or nothing
abbrev pub IsLeast : Instance → Option Point → List Choice → Least → Type 0
IsLeast a limit tight (least.Nothing cut) = IsCutWithin a limit tight cut
IsLeast a limit tight (least.Best q cut) = IsPointBelow a limit tight q × IsCutWithin a (Some q) tight cut
IsLeast a limit tight least.Unknown = Unit {0}
