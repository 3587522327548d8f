use Rattle.std.proofs.Common.{◌-◌}
use Rattle.settling.specs.Known.{IsTrueKnowledge}
use Rattle.engine.specs.Turns.{IsWaiting}
use Rattle.engine.proofs.alone.run.Given as goal

abbrev pub decreases-turns : goal.decreases-turns
decreases-turns l = l.options.pieces - l.desk.part.drawn

abbrev pub invariant-turns : goal.invariant-turns
invariant-turns l = record {
  waits : IsWaiting l.case l.options l.desk;
  known : IsTrueKnowledge l.case l.known;
}
