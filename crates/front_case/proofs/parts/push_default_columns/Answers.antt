use Rattle.std.proofs.Common.{◌≡◌, ℕ, ◌+◌, ◌++◌, [], ◌∷◌, List, refl, rules}
use Rattle.decks.specs.declared.deck.Column.{Column}
use Rattle.decks.specs.Bounds.{default_column}
use Rattle.front_case.proofs.Lists.{listed_goes_on}
use Rattle.front_case.proofs.parts.push_default_columns.Goals as goal

pub loop-preserved : goal.loop-preserved
loop-preserved c =
    let f : ℕ → Column = λ j. default_column in
    let step : c.push.new.self ≡ c.loop.columns ++ f c.loop.counter ∷ [] = search rules in
    listed_goes_on f c.args.columns.now c.loop.columns c.push.new.self (f c.loop.counter) c.loop.counter (c.loop.counter + 1) refl c.loop.invariant step refl
