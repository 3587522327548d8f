use Rattle.std.proofs.Common.{◌∙◌, ap, List}
use Rattle.lpcc_case.specs.declared.constraint.Constraint.{Constraint}
use Rattle.case_edits.specs.Edits.{right_side}
use Rattle.case_edits.proofs.Copies.{copied_all, copied_more}
use Rattle.case_edits.proofs.edited.copies_with.Goals as goal

pub loop-number-preserved : goal.loop-number-preserved
loop-number-preserved c =
    let k = c.loop-number.number in
    let item = c.index-constraints-number.result in
    ◌∙◌ {A = List Constraint} c.in_ok-push.ensures.items (copied_more c.args.changed c.args.constraints.now c.loop-number.made.items k item c.in_ok-copy_with.field-0 c.loop-number-test.true c.loop-number.invariant
    (c.in_ok-copy_with.ensures ∙ ap (λ (y : Constraint). record y { rhs = right_side c.args.changed k y.rhs }) c.index-constraints-number.is))

pub returns : goal.returns
returns c = copied_all c.args.changed c.args.constraints.now c.loop-number.made.items c.loop-number.number c.loop-number-test.false c.loop-number.invariant
