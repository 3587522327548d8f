use Rattle.std.proofs.Common.{◌-◌, All}
use Rattle.cuts.specs.Cuts.{Passes}
use Rattle.settling.specs.Known.{IsTrueKnowledge}
use Rattle.engine.specs.Turns.{IsWaiting}
use Rattle.edit_session.specs.Rounds.{IsReady}
use Rattle.edit_session.proofs.answering.take_turns.Given as goal

abbrev pub decreases-turns : goal.decreases-turns
decreases-turns l = l.options.pieces - l.desk.part.drawn

abbrev pub invariant-turns : goal.invariant-turns
invariant-turns l = record {
  waits : IsWaiting l.case l.options l.desk;
  known : IsTrueKnowledge l.case l.known;
  waiting : All (Passes l.case) l.waiting.items;
  settled : All (Passes l.case) l.settled.items;
  ready : IsReady l.case l.options l.kept l.desk l.waiting.items l.settled.items;
}
