use Rattle.std.proofs.Common.{◌≡◌, ◌+◌, ◌++◌, [], length, map, take}
use Rattle.std.specs.List.{enumerate_from, flat_map, range_with_len}
use Rattle.deck_case.specs.CaseParts.{constraints_of_columns}
use Rattle.deck_case.specs.Wide.{wide_column}
use Rattle.deck_case.proofs.columns.push_columns.Given as goal

abbrev pub invariant-loop-number : goal.invariant-loop-number
invariant-loop-number l = record {
  done : l.made.items ≡ l.fn.made.items ++ constraints_of_columns (take l.number (enumerate_from 0 l.columns));
  firsts : l.firsts.items ≡ map (λ j. length l.fn.made.items + length (constraints_of_columns (take j (enumerate_from 0 l.columns)))) (range_with_len 0 l.number);
  narrow : flat_map wide_column (take l.number l.columns) ≡ [];
}
