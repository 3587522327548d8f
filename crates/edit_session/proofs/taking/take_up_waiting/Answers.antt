use Rattle.edit_session.proofs.TakingLaws.{nothing_left, sift_ends, sift_goes_on}
use Rattle.edit_session.proofs.taking.take_up_waiting.Goals as goal

pub loop-cut-preserved : goal.loop-cut-preserved
loop-cut-preserved c =
    sift_goes_on c.args.case.now c.args.desk.now c.args.waiting.now.items c.loop-cut.desk c.take_up.new.desk c.loop-cut.waiting.items c.pop.new.self.items c.in-Some.cut c.loop-cut.rest.items c.take_up.new.waiting.items c.in-Some.ensures.items c.in_ok-take_up.ensures c.loop-cut.invariant

pub returns-clause-run : goal.returns-clause-run
returns-clause-run c =
    sift_ends c.args.case.now c.args.desk.now c.args.waiting.now.items c.loop-cut.desk c.loop-cut.waiting.items c.loop-cut.rest.items (nothing_left c.loop-cut.waiting.items c.pop.new.self.items _ c.in_default.ensures.cases.0 c.in_default.ensures.rest c.in_default.ensures.items) c.loop-cut.invariant
