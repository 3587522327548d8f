use Rattle.std.proofs.Common.{◌≡◌, ◌++◌}
use Rattle.kkt_front.specs.Decks.{listed}
use Rattle.front_case.specs.Parts.{line_row}
use Rattle.front_case.proofs.bilevel.push_line_rows.Given as goal

abbrev pub invariant-loop-i : goal.invariant-loop-i
invariant-loop-i l = l.rows ≡ l.initial.rows ++ listed (line_row l.fn.first l.fn.lines) l.i
