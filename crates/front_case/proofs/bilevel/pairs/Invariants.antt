use Rattle.std.proofs.Common.{◌≡◌}
use Rattle.kkt_front.specs.Decks.{bilevel_pair, listed}
use Rattle.front_case.proofs.bilevel.pairs.Given as goal

abbrev pub invariant-loop-i : goal.invariant-loop-i
invariant-loop-i l = l.made ≡ listed (bilevel_pair l.fn.b) l.i
