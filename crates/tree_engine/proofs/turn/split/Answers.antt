use Rattle.tree_engine.proofs.Turns.{split_turn}
use Rattle.tree_engine.proofs.turn.split.Goals as goal

pub returns : goal.returns
returns c = split_turn c.args.case.now c.args.options.now c.args.path.now c.args.state.now.run c.args.state.now.best c.add_node.new.state.run c.add_node.new.state.best c.args.pair c.args.answer c.requires.may c.requires.room c.in_ok-add_node.ensures.best c.requires.split c.in_ok-add_node.ensures.run
