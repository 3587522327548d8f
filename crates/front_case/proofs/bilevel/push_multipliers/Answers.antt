use Rattle.std.proofs.Common.{◌≡◌, ℕ, ◌+◌, ◌++◌, [], ◌∷◌, List, refl, rules}
use Rattle.decks.specs.declared.deck.Entry.{Entry}
use Rattle.kkt_front.specs.Decks.{multiplier_entries}
use Rattle.front_case.proofs.Lists.{flat_goes_on}
use Rattle.front_case.proofs.bilevel.push_multipliers.Goals as goal

pub loop-i-preserved : goal.loop-i-preserved
loop-i-preserved c =
    let f : ℕ → List Entry = multiplier_entries c.args.b.now in
    let step : c.push_multiplier.new.entries ≡ c.loop-i.entries ++ f c.loop-i.i = search rules in
    flat_goes_on f c.args.entries.now c.loop-i.entries c.push_multiplier.new.entries c.loop-i.i (c.loop-i.i + 1) refl c.loop-i.invariant step
