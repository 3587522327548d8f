use Rattle.std.proofs.Common.{◌≡◌, ◌++◌}
use Rattle.deck_gen.specs.Generator.{joined}
use Rattle.kkt_front.specs.DeckTexts.{lcp_entry}
use Rattle.kkt_front.proofs.lcp.push_entries.Given as goal

abbrev pub invariant-loop-row : goal.invariant-loop-row
invariant-loop-row l = l.out.items ≡ l.initial.out.items ++ joined (lcp_entry l.fn.lcp l.fn.j) l.row
