use Rattle.std.proofs.Common.{subst}
use Rattle.tree_engine.specs.Nodes.{IsVisit}
use Rattle.tree_engine.proofs.Turns.{closed_result, improved_result}
use Rattle.tree_engine.proofs.turn.settled.Goals as goal

pub returns-in-Closed : goal.returns-in-Closed
returns-in-Closed c =
    closed_result c.leaf.result c.args.case.now c.args.options.now c.args.path.now c.args.state.now.run c.args.state.now.best c.leaf.new.state.run c.leaf.new.state.best c.requires.may c.requires.room c.leaf.ensures.best c.leaf.ensures.leaf

pub returns-in-Improved : goal.returns-in-Improved
returns-in-Improved c =
    let h = subst (IsVisit c.args.case.now c.args.options.now.pivots c.args.state.now.best c.args.path.now) c.in-Improved.is c.requires.visit in
    improved_result c.improved_leaf.result c.args.case.now c.args.options.now c.args.path.now c.args.state.now.run c.args.state.now.best c.improved_leaf.new.state.run c.improved_leaf.new.state.best c.in-Improved.point c.requires.may c.requires.room h.0 h.1 c.improved_leaf.ensures.best c.improved_leaf.ensures.leaf
