use Rattle.std.proofs.Common.{ℤ, ◌*ℤ◌, refl, to_z, of_z}
use mir.Syntax.{w64}
use Rattle.lp_base.proofs.Machine.{narrow_again}
use Rattle.lpcc_case.specs.declared.constraint.Constraint.{Constraint}
use Rattle.lpcc_case.specs.Instance.{no_constraint}
use Rattle.lpcc_case.specs.Points.{Relates, left_side}
use Rattle.lpcc_case.proofs.Members.{next_holds, all_hold}
use Rattle.lpcc_case.proofs.feasible.all_relate.Goals as goal

pub loop-constraint-preserved : goal.loop-constraint-preserved
loop-constraint-preserved c =
    let d = to_z w64 (of_z w64 c.args.d) in
    next_holds (λ k. Relates k.kind (left_side k.terms c.args.numbers.now) (k.rhs *ℤ d)) c.args.case.now.constraints c.constraints-constraint-items.result.now c.loop-constraint.constraint-index no_constraint c.constraint-item.result c.constraints-constraint-items.ensures.list c.loop-constraint-test.true c.constraint-item.is c.loop-constraint.invariant (c.relates.ensures.0 c.if-not-relates.false)

pub returns : goal.returns
returns c =
    let P : ℤ → Constraint → Type 0 = λ z k. Relates k.kind (left_side k.terms c.args.numbers.now) (k.rhs *ℤ z) in
    (λ _. all_hold P _ c.args.d c.args.case.now.constraints c.constraints-constraint-items.result.now c.loop-constraint.constraint-index (narrow_again c.args.d c.requires.factor) c.constraints-constraint-items.ensures.list c.loop-constraint-test.false c.loop-constraint.invariant, λ _. refl)
