use Rattle.std.proofs.Common.{refl, arith}
use Rattle.nogoods.specs.declared.choice.Choice.{Choice}
use Rattle.nogoods.specs.declared.choice.Side.TheVariants.{A}
use Rattle.search.proofs.ChosenLaws.{marked_more, stays_more, all_marked}
use Rattle.search.proofs.resolve.mark.Goals as goal

pub loop-choice-init : goal.loop-choice-init
loop-choice-init c = (λ k d none small. absurd (omega arith), record { size = refl; stays = λ i h. h })

pub loop-choice-preserved : goal.loop-choice-preserved
loop-choice-preserved c =
    let d : Choice = record { pair = 0; side = A } in (
      marked_more c.loop-choice.marks.items c.mark_pair.new.marks.items c.args.choices.now c.loop-choice.choice-index d c.loop-choice-test.true c.mark_pair.ensures.kept c.mark_pair.ensures.marked c.loop-choice.invariant.0,
      stays_more _ _ _ c.loop-choice.invariant.1 c.mark_pair.ensures.kept,
    )

pub returns-clause-marked : goal.returns-clause-marked
returns-clause-marked c = all_marked c.loop-choice.marks.items c.args.choices.now c.loop-choice.choice-index c.loop-choice-test.false c.loop-choice.invariant.0

pub returns-clause-kept : goal.returns-clause-kept
returns-clause-kept c = c.loop-choice.invariant.1
