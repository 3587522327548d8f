use Rattle.tree_engine.proofs.LoosePairs.{ArePlaced}
use Rattle.tree_engine.proofs.paths.first_free.Given as goal

abbrev pub invariant-loop-at : goal.invariant-loop-at
invariant-loop-at l = ArePlaced l.at l.choices
