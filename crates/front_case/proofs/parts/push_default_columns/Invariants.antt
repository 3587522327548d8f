use Rattle.std.proofs.Common.{◌≡◌, ◌++◌}
use Rattle.decks.specs.Bounds.{default_column}
use Rattle.kkt_front.specs.Decks.{listed}
use Rattle.front_case.proofs.parts.push_default_columns.Given as goal

abbrev pub invariant-loop : goal.invariant-loop
invariant-loop l = l.columns ≡ l.initial.columns ++ listed (λ j. default_column) l.counter
