use Rattle.std.proofs.Common.{◌≡◌, ◌++◌}
use Rattle.kkt_front.specs.Decks.{listed}
use Rattle.front_case.specs.Parts.{numbered_row}
use Rattle.front_case.proofs.bilevel.push_number_rows.Given as goal

abbrev pub invariant-loop-i : goal.invariant-loop-i
invariant-loop-i l = l.rows ≡ l.initial.rows ++ listed (numbered_row l.fn.first l.fn.numbers) l.i
