use Rattle.std.proofs.Common.{◌≡◌, ◌+◌, ◌≤◌, ◌++◌, length}
use Rattle.mps_lex.specs.Lines.{pieces}
use Rattle.mps_lex.specs.Places.{placed_from, placed_lines}
use Rattle.mps_lex.proofs.line.lines.Given as goal

abbrev pub invariant-loop-rest : goal.invariant-loop-rest
invariant-loop-rest l = record {
  so_far : l.found ++ placed_from l.number l.at (pieces l.rest) ≡ placed_lines l.text;
  room : l.at + length l.rest ≤ length l.text;
  numbers : l.number + length l.rest ≤ length l.text + 1;
}

abbrev pub decreases-loop-rest : goal.decreases-loop-rest
decreases-loop-rest l = length l.rest
