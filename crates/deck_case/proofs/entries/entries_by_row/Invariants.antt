use Rattle.std.proofs.Common.{◌≡◌, length, take}
use Rattle.deck_case.proofs.Grouping.{HasEntries}
use Rattle.deck_case.proofs.entries.entries_by_row.Given as goal

abbrev pub invariant-loop-entry : goal.invariant-loop-entry
invariant-loop-entry l = record {
  long : length l.lists.items ≡ l.rows;
  each : HasEntries l.lists.items (take l.entry-index l.entries);
}
