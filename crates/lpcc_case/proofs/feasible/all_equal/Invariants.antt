use Rattle.std.proofs.Common.{All, take}
use Rattle.lpcc_case.specs.Instance.{chosen_number}
use Rattle.lpcc_case.specs.NarrowPoints.{HoldsWithEquality}
use Rattle.lpcc_case.proofs.feasible.all_equal.Given as goal

abbrev pub invariant-loop-choice : goal.invariant-loop-choice
invariant-loop-choice l = All (λ c. HoldsWithEquality l.case l.numbers l.d (chosen_number l.case c)) (take l.choice-index l.choices)
