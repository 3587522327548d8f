use Rattle.std.proofs.Common.{length}
use Rattle.std.specs.Prelude.{All, Contains}
use Rattle.std.specs.Option.{option_copied}
use Rattle.cuts.specs.Cuts.{Passes, no_good_of}
use Rattle.reasons.specs.Reasons.{IsActiveAgainst}
use Rattle.shrink.specs.Trials.{AreFound}
use Rattle.shrink.proofs.shrinking.shrink_with.Given as goal

abbrev pub invariant-loop-found : goal.invariant-loop-found
invariant-loop-found l = record {
  passes : Passes l.case l.cut;
  active : IsActiveAgainst l.cut (option_copied l.limit);
  choices : All (Contains (no_good_of l.fn.cut)) (no_good_of l.cut);
  found : AreFound l.case l.pivots (option_copied l.limit) (no_good_of l.cut) l.found.items;
}

abbrev pub decreases-loop-found : goal.decreases-loop-found
decreases-loop-found l = length (no_good_of l.cut)
