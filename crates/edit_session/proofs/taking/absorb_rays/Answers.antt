use Rattle.edit_session.proofs.TakingLaws.{begun_all, begun_next}
use Rattle.edit_session.proofs.taking.absorb_rays.Goals as goal

pub loop-cut-preserved : goal.loop-cut-preserved
loop-cut-preserved c =
    begun_next c.args.case.now c.args.kept.now c.args.desk.now c.loop-cut.desk c.take_up.new.desk c.loop-cut.waiting.items c.take_up.new.waiting.items c.cut-item.result c.in_ok-copy.field-0 c.loop-cut.cut-index c.loop-cut-test.true c.cut-item.is c.in_ok-copy.ensures c.requires.new_desk c.requires.passes c.in_ok-take_up.ensures c.loop-cut.invariant

pub returns-clause-ready : goal.returns-clause-ready
returns-clause-ready c =
    begun_all c.args.case.now c.args.kept.now c.args.desk.now c.loop-cut.desk c.loop-cut.waiting.items c.loop-cut.cut-index c.loop-cut-test.false c.requires.new_desk c.loop-cut.invariant
