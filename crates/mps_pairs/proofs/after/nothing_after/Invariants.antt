use Rattle.std.proofs.Common.{◌≡◌, ◌+◌, ◌≤◌, length}
use Rattle.mps_lex.specs.Lines.{pieces, lines_from}
use Rattle.decks.specs.After.{first_from, first_after}
use Rattle.mps_pairs.proofs.after.nothing_after.Given as goal

abbrev pub invariant-loop-left : goal.invariant-loop-left
invariant-loop-left l = record {
  so_far : first_after l.text l.rest ≡ first_from l.bytes (lines_from l.number (pieces l.left));
  room : l.number + length l.left ≤ length l.text + 1;
}

abbrev pub decreases-loop-left : goal.decreases-loop-left
decreases-loop-left l = length l.left
