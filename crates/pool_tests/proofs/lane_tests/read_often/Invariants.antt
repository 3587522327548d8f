use Rattle.std.proofs.Common.{◌≡◌, ◌<◌, ◌≤◌, length}
use Rattle.cut_words.specs.Words.{item_length}
use Rattle.pool_tests.proofs.lane_tests.read_often.Given as goal

abbrev pub invariant-loop : goal.invariant-loop
invariant-loop l = record {
  lanes : 0 < length l.reach.lanes;
  width : item_length l.reach.case ≡ 10;
  few : l.count ≤ l.counter;
}
