use Rattle.parallel_check.proofs.Cuts.{lists_more, lists_all}
use Rattle.parallel_check.proofs.testing.lists_in.Goals as goal

pub loop-line-preserved : goal.loop-line-preserved
loop-line-preserved c =
    lists_more c.args.lines.now c.loop-line.line-index c.line-item.result c.loop-line.lists c.take_list_in.new.self c.loop-line-test.true c.line-item.is c.requires c.loop-line.invariant c.in_ok-take_list_in.ensures

pub returns : goal.returns
returns c = lists_all c.args.lines.now c.loop-line.line-index c.loop-line.lists c.loop-line-test.false c.loop-line.invariant
