use Rattle.std.proofs.Common.{All, take, Contains}
use Rattle.probe.proofs.within.are_among.Given as goal

abbrev pub invariant-loop-choice : goal.invariant-loop-choice
invariant-loop-choice l = All (λ c. Contains l.tight c) (take l.choice-index l.choices)
