use Rattle.tree_engine.proofs.PathLaws.{ComesBehind}
use Rattle.tree_engine.proofs.paths.place_for.Given as goal

abbrev pub invariant-loop-at : goal.invariant-loop-at
invariant-loop-at l = ComesBehind l.choice l.at l.choices
