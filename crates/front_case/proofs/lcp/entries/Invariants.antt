use Rattle.std.proofs.Common.{◌≡◌}
use Rattle.std.specs.List.{flat_map, range_with_len}
use Rattle.kkt_front.specs.Decks.{lcp_entries}
use Rattle.front_case.proofs.lcp.entries.Given as goal

abbrev pub invariant-loop-j : goal.invariant-loop-j
invariant-loop-j l = l.made ≡ flat_map (lcp_entries l.fn.lcp) (range_with_len 0 l.j)
