use Rattle.std.proofs.Common.{◌≡◌, length}
use Rattle.settling.specs.Known.{IsTrueKnowledge}
use Rattle.worker.specs.Turns.{IsSameBut}
use Rattle.worker.proofs.searching.publish_found.Given as goal

abbrev pub invariant-loop : goal.invariant-loop
invariant-loop l = record {
  knows : IsTrueKnowledge l.case l.known;
  case : l.reach.case ≡ l.case;
  same : IsSameBut l.fn.reach l.reach;
  size : length l.words ≡ length l.fn.words;
}
