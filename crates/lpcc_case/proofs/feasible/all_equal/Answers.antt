use Rattle.std.proofs.Common.{ℤ, refl, to_z, of_z}
use mir.Syntax.{w64}
use Rattle.std.proofs.lemmas.List.Elements.{All-more}
use Rattle.lp_base.proofs.Machine.{narrow_again}
use Rattle.nogoods.specs.declared.choice.Choice.{Choice}
use Rattle.nogoods.specs.declared.choice.Side.TheVariants.{A}
use Rattle.lpcc_case.specs.NarrowPoints.{HoldsWithEquality}
use Rattle.lpcc_case.specs.Instance.{chosen_number}
use Rattle.lpcc_case.proofs.Members.{all_hold}
use Rattle.lpcc_case.proofs.feasible.all_equal.Goals as goal

pub loop-choice-preserved : goal.loop-choice-preserved
loop-choice-preserved c =
    let d = to_z w64 (of_z w64 c.args.d) in
    let none : Choice = record { pair = 0; side = A } in
    All-more (λ k. HoldsWithEquality c.args.case.now c.args.numbers.now d (chosen_number c.args.case.now k)) c.args.choices.now c.loop-choice.choice-index none c.loop-choice-test.true c.loop-choice.invariant (rw c.chosen_number.ensures.value at (c.is_equal.ensures.0 c.if-not-is_equal.false))

pub returns : goal.returns
returns c =
    let P : ℤ → Choice → Type 0 = λ z k. HoldsWithEquality c.args.case.now c.args.numbers.now z (chosen_number c.args.case.now k) in
    (λ _. all_hold P _ c.args.d c.args.choices.now c.args.choices.now c.loop-choice.choice-index (narrow_again c.args.d c.requires.factor) refl c.loop-choice-test.false c.loop-choice.invariant, λ _. refl)
