use Rattle.std.proofs.Common.{◌≡◌, ◌++◌}
use Rattle.front_text.specs.Problems.{coefficient_at}
use Rattle.kkt_front.specs.Decks.{block}
use Rattle.kkt_front.specs.DeckTexts.{row_of}
use Rattle.front_case.proofs.lcp.push_block.Given as goal

abbrev pub invariant-loop-i : goal.invariant-loop-i
invariant-loop-i l = l.entries ≡ l.initial.entries ++ block l.fn.j 1 (λ i. coefficient_at (row_of l.fn.lcp i) l.fn.j) l.i
