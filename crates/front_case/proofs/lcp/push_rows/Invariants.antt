use Rattle.std.proofs.Common.{◌≡◌, ◌++◌}
use Rattle.kkt_front.specs.Decks.{lcp_row, listed}
use Rattle.front_case.proofs.lcp.push_rows.Given as goal

abbrev pub invariant-loop-i : goal.invariant-loop-i
invariant-loop-i l = l.rows ≡ l.initial.rows ++ listed (lcp_row l.fn.lcp) l.i
