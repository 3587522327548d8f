use Rattle.std.specs.Option.{option_copied}
use Rattle.tree_engine.proofs.Turns.{shrunk_leaf}
use Rattle.tree_engine.proofs.turn.shrunk.Goals as goal

pub returns-clause-cut : goal.returns-clause-cut
returns-clause-cut c = shrunk_leaf c.args.case.now c.args.options.now.pivots c.args.state.now.best (option_copied c.as_ref.result) c.args.path.now c.args.cut c.in_ok-shrunk.shrunk c.requires.cut c.as_ref.ensures.value c.in_ok-shrunk.ensures
