use Rattle.derivation.specs.Logs.{no_goods}
use Rattle.search.specs.Growth.{Grown}
use Rattle.search.specs.Walks.{IsWalk, InPhase, moments_left}
use Rattle.search.proofs.found.run.Given as goal

abbrev pub invariant-loop-next : goal.invariant-loop-next
invariant-loop-next l =
    Grown l.pairs l.initial.log l.log × IsWalk l.fresh l.pairs (no_goods l.log) l.blocked l.walk.sides.items l.walk.reasons.items
    × InPhase l.fresh l.pairs (no_goods l.log) l.blocked l.walk.sides.items l.phase

abbrev pub decreases-loop-next : goal.decreases-loop-next
decreases-loop-next l = moments_left l.pairs l.walk.sides.items l.phase
