use Rattle.front_text.proofs.Walks.{judged_item}
use Rattle.front_text.proofs.making.lines_of.Goals as goal

pub line_of-requires-clause-below : goal.line_of-requires-clause-below
line_of-requires-clause-below c = (judged_item c.args.count c.args.lines.now c.loop-line.line-index c.line-item.result c.loop-line-test.true c.requires.right c.line-item.is).0

pub line_of-requires-clause-bound : goal.line_of-requires-clause-bound
line_of-requires-clause-bound c = (judged_item c.args.count c.args.lines.now c.loop-line.line-index c.line-item.result c.loop-line-test.true c.requires.right c.line-item.is).1

pub line_of-requires-clause-fitting : goal.line_of-requires-clause-fitting
line_of-requires-clause-fitting c = (judged_item c.args.count c.args.lines.now c.loop-line.line-index c.line-item.result c.loop-line-test.true c.requires.right c.line-item.is).2
