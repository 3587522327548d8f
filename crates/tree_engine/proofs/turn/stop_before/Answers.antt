use Rattle.tree_engine.proofs.Turns.{nodes_out}
use Rattle.tree_engine.proofs.turn.stop_before.Goals as goal

pub returns : goal.returns
returns c = nodes_out c.args.case.now c.args.options.now c.args.path.now c.args.state.now.run c.args.state.now.best c.in_ok-left.left c.requires.may c.requires.all c.in_ok-left.ensures
