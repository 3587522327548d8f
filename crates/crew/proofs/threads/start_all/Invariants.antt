use Rattle.std.proofs.Common.{◌≡◌, All, length}
use Rattle.best.specs.Passes.{IsPassOf}
use Rattle.crew.specs.Crews.{AreReachesOf}
use Rattle.crew.proofs.threads.start_all.Given as goal

abbrev pub decreases-loop-reach : goal.decreases-loop-reach
decreases-loop-reach g l = length l.reaches.items

abbrev pub invariant-loop-reach : goal.invariant-loop-reach
invariant-loop-reach g l = record {
  passes : All (IsPassOf l.best) l.passes.items;
  reaches : AreReachesOf l.case l.reaches.items;
}
