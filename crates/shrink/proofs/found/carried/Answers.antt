use Rattle.std.proofs.Common.{◌∙◌}
use Rattle.nogoods.specs.declared.choice.Side.TheVariants.{A}
use Rattle.shrink.proofs.Carrying.{carried_more}
use Rattle.shrink.proofs.found.carried.Goals as goal

pub loop-choice-preserved : goal.loop-choice-preserved
loop-choice-preserved c =
    let before = c.loop-choice.invariant in
    let taken = c.take_lasting-reason.ensures in
    record {
      size = taken.size ∙ before.size;
      rest = λ k r here. before.rest k r (taken.rest k r here);
      so_far = carried_more c.args.old.now c.choices-choices.result.now c.loop-choice.choice-index (record { pair = 0; side = A }) c.args.found.items c.loop-choice.found.items c.loop-choice.made.items
          c.push.new.self.items c.take_lasting-reason.result c.loop-choice-test.true before.so_far before.rest taken.origin c.in_ok-push.ensures.items;
    }
