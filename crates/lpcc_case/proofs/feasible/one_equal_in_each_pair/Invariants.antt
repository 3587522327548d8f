use Rattle.std.proofs.Common.{◌⊎◌, All, take}
use Rattle.lpcc_case.specs.NarrowPoints.{HoldsWithEquality}
use Rattle.lpcc_case.proofs.feasible.one_equal_in_each_pair.Given as goal

abbrev pub invariant-loop-pair : goal.invariant-loop-pair
invariant-loop-pair l = All (λ pair. HoldsWithEquality l.case l.numbers l.d pair.0 ⊎ HoldsWithEquality l.case l.numbers l.d pair.1) (take l.pair-index l.case.pairs)
