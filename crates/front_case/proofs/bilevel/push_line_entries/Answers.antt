use Rattle.std.proofs.Common.{◌≡◌, ℕ, ◌+◌, ◌++◌, [], ◌∷◌, List, refl, rules}
use Rattle.decks.specs.declared.deck.Entry.{Entry}
use Rattle.front_text.specs.Problems.{coefficient_at}
use Rattle.kkt_front.specs.DeckTexts.{line_at}
use Rattle.kkt_front.specs.Decks.{entry_if}
use Rattle.front_case.proofs.Lists.{flat_goes_on}
use Rattle.front_case.proofs.bilevel.push_line_entries.Goals as goal

pub loop-i-preserved : goal.loop-i-preserved
loop-i-preserved c =
    let f : ℕ → List Entry = λ i. entry_if c.args.j (c.args.first + i) (coefficient_at (line_at c.args.lines.now i).terms c.args.j) in
    let step : c.push_line_entry.new.entries ≡ c.loop-i.entries ++ f c.loop-i.i = search rules in
    flat_goes_on f c.args.entries.now c.loop-i.entries c.push_line_entry.new.entries c.loop-i.i (c.loop-i.i + 1) refl c.loop-i.invariant step
