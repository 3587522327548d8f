-- Cuts with choices among those of others.
use Rattle.std.proofs.Common.{◌≡◌, ℕ, ◌≤◌, List, length, Option, Some, arith, subst}
use Rattle.std.specs.Prelude.{All, Contains, IfOk, Result, Ok, Err, slice_get}
use Rattle.std.specs.List.{remove}
use Rattle.std.proofs.lemmas.Option.{slice_get_within}
use Rattle.std.proofs.lemmas.List.Edits.{length-remove}
use Rattle.std.proofs.lemmas.List.Elements.{All-contains, All-contains_itself, All-weaker}
use Rattle.nogoods.specs.declared.choice.Choice.{Choice}
use Rattle.lpcc_case.specs.Instance.{Instance}
use Rattle.lpcc_case.specs.declared.point.Point.{Point}
use Rattle.cuts.specs.declared.cut.Cut.{Cut}
use Rattle.cuts.specs.Cuts.{Passes, no_good_of}
use Rattle.reasons.specs.Reasons.{IsActiveAgainst}
use Rattle.probe.specs.Answers.{IsCutWithin}
use Rattle.shrink.specs.Shrinking.{IsShrunk}
use Rattle.shrink.specs.declared.shrunk.Shrunk.{Shrunk}
use Rattle.shrink.proofs.Removing.{removed_within}

pub within_itself : (a : Instance) (limit : Option Point) (cut : Cut) → Passes a cut → IsActiveAgainst cut limit → IsCutWithin a limit (no_good_of cut) cut
within_itself a limit cut passes active = record { passes = passes; active = active; choices = All-contains_itself (no_good_of cut); fewer = omega arith }

-- among some of these choices, and so among these
pub within_all : (a : Instance) (limit : Option Point) (all some : List Choice) (cut : Cut) → All (Contains all) some → length some ≤ length all → IsCutWithin a limit some cut → IsCutWithin a limit all cut
within_all a limit all some cut among few is = record {
  passes = is.passes;
  active = is.active;
  choices = All-weaker (Contains some) (Contains all) (λ x h. All-contains (Contains all) some x among h) (no_good_of cut) is.choices;
  fewer = let fewer = is.fewer in omega arith;
}

-- among these choices but one
pub within_others : (a : Instance) (limit : Option Point) (ng others : List Choice) (k : ℕ) (c : Choice) (cut : Cut) → slice_get ng k ≡ Some c → others ≡ remove ng k → IsCutWithin a limit others cut → IsCutWithin a limit ng cut
within_others a limit ng others k c cut at e is =
    let lt = slice_get_within ng k c at in
    let size = length-remove ng k lt in
    let within : IsCutWithin a limit (remove ng k) cut = subst (λ (xs : List Choice). IsCutWithin a limit xs cut) e is in
    let fewer = within.fewer in
    record {
      passes = within.passes;
      active = within.active;
      choices = All-weaker (Contains (remove ng k)) (Contains ng) (λ x h. removed_within ng k x lt h) (no_good_of cut) within.choices;
      fewer = omega arith;
    }

-- what is left of a cut within another is what is left of that one
pub shrunk_within : {E : Type 0} (a : Instance) (budget : ℕ) (limit : Option Point) (old mid : Cut) (r : Result Shrunk E) → IsCutWithin a limit (no_good_of old) mid → IfOk r (IsShrunk a budget limit mid) → IfOk r (IsShrunk a budget limit old)
shrunk_within a budget limit old mid (Ok s) within is = record {
  passes = is.passes;
  active = is.active;
  choices = All-weaker (Contains (no_good_of mid)) (Contains (no_good_of old)) (λ x h. All-contains (Contains (no_good_of old)) (no_good_of mid) x within.choices h) (no_good_of s.cut) is.choices;
  kept = is.kept;
}
shrunk_within a budget limit old mid (Err e) within is = is
