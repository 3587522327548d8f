use Rattle.std.proofs.Common.{ℕ, ◌<◌}
use Rattle.reasons.specs.Reasons.{Has}
use Rattle.tree_engine.specs.Paths.{HasTightSide}
use Rattle.tree_engine.proofs.loose.first_loose.Given as goal

abbrev pub invariant-loop-pair : goal.invariant-loop-pair
invariant-loop-pair l = (k : ℕ) → k < l.pair → Has l.case l.point (λ p. HasTightSide l.case p k)
