use Rattle.std.proofs.Common.{◌∙◌}
use Rattle.trimming.proofs.ReachLaws.{hints_more, hints_all, only_more, only_all}
use Rattle.trimming.proofs.reach.mark_hints.Goals as goal

pub loop-hint-preserved : goal.loop-hint-preserved
loop-hint-preserved c =
    let inv = c.loop-hint.invariant in (
      c.mark_hint.ensures.size ∙ inv.0,
      hints_more c.loop-hint.marks.items c.mark_hint.new.marks.items c.args.below c.args.hints.now c.loop-hint.hint-index c.loop-hint-test.true c.mark_hint.ensures.kept c.mark_hint.ensures.marked inv.1,
      λ j h. c.mark_hint.ensures.kept j (inv.2 j h),
      λ j low. c.mark_hint.ensures.others j low ∙ inv.3 j low,
      only_more c.args.marks.now.items c.loop-hint.marks.items c.mark_hint.new.marks.items c.args.hints.now c.loop-hint.hint-index c.loop-hint-test.true c.mark_hint.ensures.only inv.4,
    )

pub returns-clause-marked : goal.returns-clause-marked
returns-clause-marked c = hints_all c.loop-hint.marks.items c.args.below c.args.hints.now c.loop-hint.hint-index c.loop-hint-test.false c.loop-hint.invariant.1

pub returns-clause-only : goal.returns-clause-only
returns-clause-only c = only_all c.args.marks.now.items c.loop-hint.marks.items c.args.hints.now c.loop-hint.hint-index c.loop-hint-test.false c.loop-hint.invariant.4
