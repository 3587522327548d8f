use Rattle.std.proofs.Common.{◌≡◌, length}
use Rattle.settling.specs.Known.{IsTrueKnowledge}
use Rattle.worker.specs.Reading.{AreDry, IsReading, IsSameWay}
use Rattle.worker.proofs.reading.read_lane.Given as goal

abbrev pub invariant-loop : goal.invariant-loop
invariant-loop g l = record {
  way : IsSameWay l.fn.reach l.reach;
  knows : IsTrueKnowledge l.case l.known;
  best : l.known.incumbent ≡ l.fn.known.incumbent;
  size : length l.words ≡ length l.fn.words;
  reads : IsReading l.case l.piece l.known.incumbent l.reach l.found;
  dry : AreDry l.reach l.lane;
}
