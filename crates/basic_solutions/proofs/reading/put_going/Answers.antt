use Rattle.std.proofs.Common.{◌<◌, length}
use Rattle.basic_solutions.proofs.ReadingSteps.{start_none, start_some}
use Rattle.basic_solutions.proofs.reading.put_going.Goals as goal

pub returns-in-None : goal.returns-in-None
returns-in-None c = rw c.in-None.is (start_none c.args.case.now c.args.dict.now c.args.values.now.items c.requires.size c.requires.zero)

pub returns-in-Some : goal.returns-in-Some
returns-in-Some c =
    let inside : c.in-Some.col < length c.args.dict.now.nonbasic = rw c.in-Some.is at c.requires.going in
    rw c.in-Some.is (start_some c.args.case.now c.args.dict.now c.in-Some.col c.in-Some.down c.step.result c.nonbasic.result c.args.values.now.items c.put_fraction.new.values.items c.requires.sized c.requires.placed inside c.nonbasic.ensures c.step.ensures c.put_fraction.ensures c.requires.size c.requires.zero)
