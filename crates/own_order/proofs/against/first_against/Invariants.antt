use Rattle.std.proofs.Common.{take}
use Rattle.std.specs.Prelude.{All}
use Rattle.std.specs.Option.{option_copied}
use Rattle.own_order.specs.Searching.{IsAgainst}
use Rattle.own_order.proofs.against.first_against.Given as goal

abbrev pub invariant-loop-cut : goal.invariant-loop-cut
invariant-loop-cut l = All (λ c. IsAgainst l.piece (option_copied l.limit) c → ⊥) (take l.cut-index l.cuts)
