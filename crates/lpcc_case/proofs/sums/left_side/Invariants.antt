use Rattle.std.proofs.Common.{◌≡◌, take}
use Rattle.lpcc_case.specs.Points.{left_side}
use Rattle.lpcc_case.proofs.sums.left_side.Given as goal

abbrev pub invariant-loop-term : goal.invariant-loop-term
invariant-loop-term l = l.sum ≡ left_side (take l.term-index l.constraint.terms) l.numbers
