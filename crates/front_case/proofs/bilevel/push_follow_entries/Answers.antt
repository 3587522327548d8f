use Rattle.std.proofs.Common.{◌≡◌, ℕ, ◌+◌, ◌++◌, [], ◌∷◌, List, refl, rules}
use Rattle.decks.specs.declared.deck.Entry.{Entry}
use Rattle.front_text.specs.Problems.{coefficient_at}
use Rattle.kkt_front.specs.Decks.{entry_if}
use Rattle.front_case.proofs.Lists.{flat_goes_on}
use Rattle.front_case.proofs.bilevel.push_follow_entries.Goals as goal

pub loop-k-preserved : goal.loop-k-preserved
loop-k-preserved c =
    let f : ℕ → List Entry = λ k. entry_if c.args.column (c.args.first + k) (coefficient_at c.args.terms.now (c.args.variable + k)) in
    let step : c.push_entry_if.new.entries ≡ c.loop-k.entries ++ f c.loop-k.k = search rules in
    flat_goes_on f c.args.entries.now c.loop-k.entries c.push_entry_if.new.entries c.loop-k.k (c.loop-k.k + 1) refl c.loop-k.invariant step
