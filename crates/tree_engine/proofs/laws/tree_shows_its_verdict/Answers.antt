use Rattle.tree_engine.proofs.TreeLaws.{tree_true}
use Rattle.tree_engine.proofs.laws.tree_shows_its_verdict.Goals as goal

pub returns : goal.returns
returns c a best t v is_best holds is = tree_true a best t v is_best holds is
