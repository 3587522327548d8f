use Rattle.std.proofs.Common.{◌≡◌, length}
use Rattle.best.specs.Passes.{IsPassOf}
use Rattle.settling.specs.Known.{IsTrueKnowledge}
use Rattle.worker.specs.Turns.{IsReachOf}
use Rattle.worker.proofs.turns.take_turns.Given as goal

abbrev pub invariant-loop : goal.invariant-loop
invariant-loop g l = record {
  ours : IsPassOf l.best l.pass;
  knows : IsTrueKnowledge l.case l.known;
  mine : IsReachOf l.case l.options l.worker l.reach;
  size : length l.words ≡ length l.fn.words;
}
