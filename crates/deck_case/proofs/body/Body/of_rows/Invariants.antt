use Rattle.std.proofs.Common.{◌≡◌, ◌<◌, [], length, map, pos, take}
use Rattle.std.specs.List.{enumerate_from, range_with_len}
use Rattle.decks.specs.Decks.{entries_of}
use Rattle.deck_case.specs.CaseParts.{constraints_of_rows, cost_of, offset_of, scale_of}
use Rattle.deck_case.specs.DeckCases.{before_row}
use Rattle.deck_case.specs.DeckPoints.{row_at}
use Rattle.deck_case.specs.Wide.{wide_rows}
use Rattle.deck_case.proofs.body.Body.of_rows.Given as goal

abbrev pub invariant-loop-number : goal.invariant-loop-number
invariant-loop-number l = record {
  done : l.made.constraints.items ≡ constraints_of_rows l.deck.entries (take l.number (enumerate_from 0 l.deck.rows));
  firsts : l.made.firsts.items ≡ map (before_row l.deck) (range_with_len 0 l.number);
  cost : l.deck.objective < l.number → l.made.objective.cost ≡ cost_of (length l.deck.columns) (entries_of l.deck.entries l.deck.objective) (row_at l.deck l.deck.objective);
  scale : l.deck.objective < l.number → l.made.objective.scale ≡ pos (scale_of (entries_of l.deck.entries l.deck.objective) (row_at l.deck l.deck.objective));
  offset : l.deck.objective < l.number → l.made.objective.offset ≡ offset_of (entries_of l.deck.entries l.deck.objective) (row_at l.deck l.deck.objective);
  narrow : wide_rows l.deck.entries (take l.number (enumerate_from 0 l.deck.rows)) ≡ [];
}
