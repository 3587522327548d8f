use Rattle.std.proofs.Common.{◌≡◌, ℕ, ◌+◌, ◌++◌, [], ◌∷◌, List, refl, rules}
use Rattle.decks.specs.declared.deck.Entry.{Entry}
use Rattle.kkt_front.specs.Decks.{lcp_entries}
use Rattle.front_case.proofs.Lists.{flat_goes_on}
use Rattle.front_case.proofs.lcp.entries.Goals as goal

pub loop-j-preserved : goal.loop-j-preserved
loop-j-preserved c =
    let f : ℕ → List Entry = lcp_entries c.args.lcp.now in
    let step : c.push_column.new.entries ≡ c.loop-j.made ++ f c.loop-j.j = search rules in
    flat_goes_on f [] c.loop-j.made c.push_column.new.entries c.loop-j.j (c.loop-j.j + 1) refl c.loop-j.invariant step
