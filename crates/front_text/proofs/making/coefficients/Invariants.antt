use Rattle.std.proofs.Common.{◌≡◌, map}
use Rattle.std.specs.List.{range_with_len}
use Rattle.front_text.specs.Problems.{coefficient_at}
use Rattle.front_text.proofs.making.coefficients.Given as goal

abbrev pub invariant-loop-i : goal.invariant-loop-i
invariant-loop-i l = l.made ≡ map (coefficient_at l.fn.terms) (range_with_len l.fn.first l.i)
