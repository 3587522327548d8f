use Rattle.case_edits.proofs.KeptLaws.{kept_all, next_kept}
use Rattle.case_edits.proofs.kept.kept_cuts.Goals as goal

pub loop-cut-preserved : goal.loop-cut-preserved
loop-cut-preserved c = next_kept c.args.case.now c.args.cuts.now c.loop-cut.made.items c.push_kept.new.made.items c.loop-cut.cut-index c.cut-item.result c.in_ok-kept.kept c.loop-cut-test.true c.cut-item.is c.in_ok-push_kept.ensures c.loop-cut.invariant c.in_ok-kept.ensures

pub returns : goal.returns
returns c = kept_all c.args.case.now c.args.cuts.now c.loop-cut.made.items c.loop-cut.cut-index c.loop-cut-test.false c.loop-cut.invariant
