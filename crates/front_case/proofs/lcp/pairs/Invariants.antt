use Rattle.std.proofs.Common.{◌≡◌}
use Rattle.kkt_front.specs.Decks.{lcp_pair, listed}
use Rattle.front_case.proofs.lcp.pairs.Given as goal

abbrev pub invariant-loop-i : goal.invariant-loop-i
invariant-loop-i l = l.made ≡ listed lcp_pair l.i
