use Rattle.std.proofs.Common.{◌≡◌, drop}
use Rattle.front_text.specs.Problems.{coefficient_at}
use Rattle.kkt_front.proofs.parts.coefficient_at.Given as goal

abbrev pub invariant-loop-term : goal.invariant-loop-term
invariant-loop-term l = coefficient_at (drop l.term-index l.fn.terms) l.fn.variable ≡ coefficient_at l.fn.terms l.fn.variable
