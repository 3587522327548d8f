use Rattle.std.proofs.Common.{◌≡◌, ◌++◌}
use Rattle.front_text.specs.Problems.{coefficient_at}
use Rattle.kkt_front.specs.Decks.{block}
use Rattle.kkt_front.specs.DeckTexts.{line_at}
use Rattle.front_case.proofs.bilevel.push_line_entries.Given as goal

abbrev pub invariant-loop-i : goal.invariant-loop-i
invariant-loop-i l = l.entries ≡ l.initial.entries ++ block l.fn.j l.fn.first (λ i. coefficient_at (line_at l.fn.lines i).terms l.fn.j) l.i
