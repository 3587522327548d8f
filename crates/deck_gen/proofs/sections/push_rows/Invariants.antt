use Rattle.std.proofs.Common.{◌≡◌, ◌++◌}
use Rattle.deck_gen.specs.Generator.{joined, row_line}
use Rattle.deck_gen.proofs.sections.push_rows.Given as goal

abbrev pub invariant-loop-row : goal.invariant-loop-row
invariant-loop-row l = l.out.items ≡ l.initial.out.items ++ joined row_line l.row
