use Rattle.std.proofs.Common.{◌≡◌, ◌++◌}
use Rattle.deck_gen.specs.Generator.{joined}
use Rattle.kkt_front.specs.DeckTexts.{multiplier_entry}
use Rattle.kkt_front.proofs.bilevel.push_multiplier_entries.Given as goal

abbrev pub invariant-loop-k : goal.invariant-loop-k
invariant-loop-k l = l.out.items ≡ l.initial.out.items ++ joined (multiplier_entry l.fn.b l.fn.i) l.k
