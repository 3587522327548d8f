use Rattle.std.proofs.Common.{◌≡◌, ◌++◌}
use Rattle.std.specs.List.{flat_map, range_with_len}
use Rattle.kkt_front.specs.Decks.{multiplier_entries}
use Rattle.front_case.proofs.bilevel.push_multipliers.Given as goal

abbrev pub invariant-loop-i : goal.invariant-loop-i
invariant-loop-i l = l.entries ≡ l.initial.entries ++ flat_map (multiplier_entries l.fn.b) (range_with_len 0 l.i)
