use Rattle.std.proofs.Common.{◌≡◌, ℕ, ◌+◌, ◌++◌, [], ◌∷◌, List, refl, rules}
use Rattle.decks.specs.declared.deck.Column.{Column}
use Rattle.kkt_front.specs.Decks.{free_column}
use Rattle.front_case.proofs.Lists.{listed_goes_on}
use Rattle.front_case.proofs.bilevel.push_free_columns.Goals as goal

pub loop-j-preserved : goal.loop-j-preserved
loop-j-preserved c =
    let f : ℕ → Column = λ j. free_column (0 + j) in
    let step : c.push.new.self ≡ c.loop-j.columns ++ f c.loop-j.j ∷ [] = search rules in
    listed_goes_on f c.args.columns.now c.loop-j.columns c.push.new.self (f c.loop-j.j) c.loop-j.j (c.loop-j.j + 1) refl c.loop-j.invariant step refl
