use Rattle.std.proofs.Common.{Contains, All, subst}
use Rattle.std.proofs.lemmas.List.{take_all}
use Rattle.std.proofs.lemmas.List.Elements.{All-more}
use Rattle.nogoods.specs.declared.choice.Choice.{Choice}
use Rattle.nogoods.specs.declared.choice.Side.TheVariants.{A}
use Rattle.probe.proofs.within.are_among.Goals as goal

pub loop-choice-preserved : goal.loop-choice-preserved
loop-choice-preserved c =
    let none : Choice = record { pair = 0; side = A } in
    All-more (λ k. Contains c.args.tight.now k) c.args.choices.now c.loop-choice.choice-index none c.loop-choice-test.true c.loop-choice.invariant (c.stands_among.ensures.0 c.if-not-stands_among.false)

pub returns : goal.returns
returns c = λ _. subst (All (λ k. Contains c.args.tight.now k)) (take_all c.loop-choice.choice-index c.args.choices.now c.loop-choice-test.false) c.loop-choice.invariant
