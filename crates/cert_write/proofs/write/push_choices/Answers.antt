use Rattle.cert_write.proofs.Pushes.{spaced_nil, pushes, pushed, choices_text, choices_more}
use Rattle.std.proofs.Common.{◌∷◌}
use Rattle.nogoods.specs.declared.choice.Side.TheVariants.{A}
use Rattle.cert_text.specs.Spelling.{choice_word}
use Rattle.cert_write.proofs.write.push_choices.Goals as goal

pub loop-choice-preserved : goal.loop-choice-preserved
loop-choice-preserved c =
    pushes choices_text (λ x. 32 ∷ choice_word x) choices_more c.loop-choice.out.items c.push_choice.new.out.items _ c.loop-choice.choice-index c.args.choices.now (record { pair = 0; side = A })
    c.loop-choice-test.true c.in_ok-push_choice.ensures c.loop-choice.invariant

pub returns : goal.returns
returns c = pushed choices_text spaced_nil c.loop-choice.out.items _ c.loop-choice.choice-index c.args.choices.now c.loop-choice-test.false c.loop-choice.invariant
