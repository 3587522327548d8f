use Rattle.std.proofs.Common.{◌≡◌, ℕ, ◌+◌, ◌++◌, [], ◌∷◌, List, refl, rules}
use Rattle.decks.specs.declared.deck.Row as rows
use Rattle.front_case.specs.Parts.{numbered_row}
use Rattle.front_case.proofs.Lists.{listed_goes_on}
use Rattle.front_case.proofs.bilevel.push_number_rows.Goals as goal

pub loop-i-preserved : goal.loop-i-preserved
loop-i-preserved c =
    let f : ℕ → rows.Row = numbered_row c.args.first c.args.numbers.now in
    let step : c.push.new.self ≡ c.loop-i.rows ++ f c.loop-i.i ∷ [] = search rules in
    listed_goes_on f c.args.rows.now c.loop-i.rows c.push.new.self (f c.loop-i.i) c.loop-i.i (c.loop-i.i + 1) refl c.loop-i.invariant step refl
