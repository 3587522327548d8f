use Rattle.std.proofs.lemmas.List.{get_or_default}
use Rattle.basic_solutions.proofs.BlameSteps.{blaming_more}
use Rattle.basic_solutions.proofs.blame.blamed_choices.Goals as goal

pub loop-choice-preserved : goal.loop-choice-preserved
loop-choice-preserved c =
    blaming_more c.args.case.now c.args.mult.now c.args.choices.now c.loop-choice.choice-index c.chosen_number-number.result _ c.loop-choice.marks.items _ c.loop-choice.out.items c.put_choice.new.out.items c.loop-choice-test.true (get_or_default c.args.choices.now c.loop-choice.choice-index _ _ c.loop-choice-test.true) c.chosen_number-number.ensures.value c.chosen_number-number.ensures.within c.in_ok-put_choice.ensures.choices c.in_ok-put_choice.ensures.marks c.loop-choice.invariant
