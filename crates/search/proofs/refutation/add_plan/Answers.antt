use Rattle.search.proofs.GrowthLaws.{grown_more}
use Rattle.search.proofs.refutation.add_plan.Goals as goal

pub returns-in_err-add_planned : goal.returns-in_err-add_planned
returns-in_err-add_planned c = record {
  grown = grown_more c.args.pairs c.args.log.now c.loop-planned.log c.add_planned.new.log c.loop-planned.invariant c.add_planned.ensures.grown;
}

pub loop-planned-preserved : goal.loop-planned-preserved
loop-planned-preserved c = grown_more c.args.pairs c.args.log.now c.loop-planned.log c.add_planned.new.log c.loop-planned.invariant c.add_planned.ensures.grown
