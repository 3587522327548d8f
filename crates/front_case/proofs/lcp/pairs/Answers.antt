use Rattle.std.proofs.Common.{◌≡◌, ℕ, ◌+◌, ◌++◌, [], ◌∷◌, List, refl, rules}
use Rattle.decks.specs.declared.deck.PairLine.{PairLine}
use Rattle.kkt_front.specs.Decks.{lcp_pair}
use Rattle.front_case.proofs.Lists.{listed_goes_on}
use Rattle.front_case.proofs.lcp.pairs.Goals as goal

pub loop-i-preserved : goal.loop-i-preserved
loop-i-preserved c =
    let f : ℕ → PairLine = lcp_pair in
    let step : c.push.new.self ≡ c.loop-i.made ++ f c.loop-i.i ∷ [] = search rules in
    listed_goes_on f [] c.loop-i.made c.push.new.self (f c.loop-i.i) c.loop-i.i (c.loop-i.i + 1) refl c.loop-i.invariant step refl
