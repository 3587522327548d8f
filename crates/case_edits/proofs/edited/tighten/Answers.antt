use Rattle.std.proofs.Common.{◌∙◌, ◌≡◌, sym, ap, subst, ℤ, List}
use Rattle.lp_base.proofs.Machine.{again_64}
use Rattle.lpcc_case.specs.declared.constraint.Constraint.{Constraint}
use Rattle.lpcc_case.specs.Cases.{IsCase}
use Rattle.case_edits.specs.Edits.{with_constraints, with_right_side}
use Rattle.case_edits.proofs.CaseLaws.{tightened_is_case}
use Rattle.case_edits.proofs.edited.tighten.Goals as goal

pub with_constraints-requires : goal.with_constraints-requires
with_constraints-requires c =
    let a = c.args.case.now in
    let e : c.in_ok-constraints.constraints.items ≡ with_right_side c.args.con c.args.rhs a.constraints = c.in_ok-constraints.ensures ∙ ap (λ (r : ℤ). with_right_side c.args.con r c.constraints.result.now) (again_64 c.args.rhs c.ranges.rhs) ∙ ap (with_right_side c.args.con c.args.rhs) c.constraints.ensures.list in
    subst (λ (l : List Constraint). IsCase (with_constraints l a)) (sym e) (tightened_is_case a c.args.con c.args.rhs c.constraints.ensures.kept c.requires)
