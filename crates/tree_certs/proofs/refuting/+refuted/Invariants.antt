use Rattle.tree_engine.specs.Trees.{size}
use Rattle.tree_certs.proofs.refuting.+refuted.Given as goal

abbrev pub decreases-refuted : goal.decreases-refuted
decreases-refuted l = size l.tree.now
