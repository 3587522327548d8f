use Rattle.std.proofs.Common.{◌≡◌, length, None}
use Rattle.best.specs.Passes.{IsPassOf}
use Rattle.cut_pool.specs.Reaches.{HasCaughtUp}
use Rattle.settling.specs.Known.{IsTrueKnowledge}
use Rattle.worker.specs.Reading.{IsReading}
use Rattle.worker.specs.Turns.{IsReachOf}
use Rattle.worker.proofs.searching.search.Given as goal

abbrev pub invariant-loop : goal.invariant-loop
invariant-loop g l = record {
  ours : IsPassOf l.best l.pass;
  knows : IsTrueKnowledge l.case l.known;
  mine : IsReachOf l.case l.options l.ticket.worker l.reach;
  size : length l.words ≡ length l.fn.words;
  reads : IsReading l.case l.ticket.piece l.known.incumbent l.reach None;
  dry : HasCaughtUp l.reach;
}
