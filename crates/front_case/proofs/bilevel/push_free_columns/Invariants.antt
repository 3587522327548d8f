use Rattle.std.proofs.Common.{◌≡◌, ◌+◌, ◌++◌}
use Rattle.kkt_front.specs.Decks.{free_column, listed}
use Rattle.front_case.proofs.bilevel.push_free_columns.Given as goal

abbrev pub invariant-loop-j : goal.invariant-loop-j
invariant-loop-j l = l.columns ≡ l.initial.columns ++ listed (λ j. free_column (0 + j)) l.j
