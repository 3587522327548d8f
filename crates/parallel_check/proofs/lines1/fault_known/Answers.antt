use Rattle.parallel_check.proofs.Lines.{tested_passes1}
use Rattle.parallel_check.proofs.lines1.fault_known.Goals as goal

pub returns-then-tested : goal.returns-then-tested
returns-then-tested c = tested_passes1 c.args.case.now c.args.value c.args.earlier.now.no_goods c.args.line.now (c.requires.tested c.if-tested.true)
