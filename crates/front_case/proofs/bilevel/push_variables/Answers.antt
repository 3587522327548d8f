use Rattle.std.proofs.Common.{◌≡◌, ℕ, ◌+◌, ◌++◌, [], ◌∷◌, List, refl, rules}
use Rattle.decks.specs.declared.deck.Entry.{Entry}
use Rattle.kkt_front.specs.Decks.{variable_entries}
use Rattle.front_case.proofs.Lists.{flat_goes_on}
use Rattle.front_case.proofs.bilevel.push_variables.Goals as goal

pub loop-j-preserved : goal.loop-j-preserved
loop-j-preserved c =
    let f : ℕ → List Entry = variable_entries c.args.b.now in
    let step : c.push_variable.new.entries ≡ c.loop-j.entries ++ f c.loop-j.j = search rules in
    flat_goes_on f c.args.entries.now c.loop-j.entries c.push_variable.new.entries c.loop-j.j (c.loop-j.j + 1) refl c.loop-j.invariant step
