use Rattle.std.proofs.Common.{◌≡◌, ◌++◌}
use Rattle.std.specs.List.{flat_map, range_with_len}
use Rattle.kkt_front.specs.Decks.{variable_entries}
use Rattle.front_case.proofs.bilevel.push_variables.Given as goal

abbrev pub invariant-loop-j : goal.invariant-loop-j
invariant-loop-j l = l.entries ≡ l.initial.entries ++ flat_map (variable_entries l.fn.b) (range_with_len 0 l.j)
