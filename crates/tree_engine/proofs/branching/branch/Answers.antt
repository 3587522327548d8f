use Rattle.tree_engine.proofs.Turns.{from_start, may_start}
use Rattle.tree_engine.proofs.branching.branch.Goals as goal

pub closed-requires : goal.closed-requires
closed-requires c = may_start c.args.case.now c.args.options.now c.in_ok-path.path c.in_ok-state.state.run c.in_ok-state.state.best c.in_ok-path.ensures c.in_ok-state.ensures.run c.in_ok-state.ensures.best

pub answer_of-requires : goal.answer_of-requires
answer_of-requires c = from_start c.args.case.now c.args.options.now c.in_ok-path.path c.in_ok-state.state.run c.in_ok-state.state.best c.closed.new.state.run c.closed.new.state.best c.in_ok-closing.closing c.in_ok-path.ensures c.in_ok-state.ensures.run c.in_ok-state.ensures.best c.in_ok-closing.ensures
