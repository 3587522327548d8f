use Rattle.std.proofs.Common.{◌≡◌, length}
use Rattle.settling.specs.Known.{IsTrueKnowledge}
use Rattle.worker.specs.Reading.{AreDry, IsReading, IsSameWay}
use Rattle.worker.proofs.reading.read_lanes.Given as goal

abbrev pub invariant-loop-lane : goal.invariant-loop-lane
invariant-loop-lane g l = record {
  way : IsSameWay l.fn.reach l.reach;
  knows : IsTrueKnowledge l.case l.known;
  best : l.known.incumbent ≡ l.fn.known.incumbent;
  size : length l.words ≡ length l.fn.words;
  reads : IsReading l.case l.piece l.known.incumbent l.reach l.found;
  dry : AreDry l.reach l.lane;
}
