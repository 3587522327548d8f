use Rattle.tree_engine.proofs.TreeLaws.{kept_lower}
use Rattle.tree_engine.proofs.laws.lower_best_keeps_a_tree.Goals as goal

pub returns : goal.returns
returns c a old new path t hold hnew low holds = kept_lower a old new path t hold hnew low holds
