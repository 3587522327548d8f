use Rattle.std.proofs.Common.{◌∙◌, ◌≡◌, sym, ap, subst, List, [], ◌∷◌, ◌++◌}
use Rattle.lpcc_case.specs.declared.constraint.Constraint.{Constraint}
use Rattle.lpcc_case.specs.Cases.{IsCase}
use Rattle.case_edits.specs.Edits.{with_constraints}
use Rattle.case_edits.proofs.CaseLaws.{added_is_case}
use Rattle.case_edits.proofs.edited.add.Goals as goal

pub with_constraints-requires : goal.with_constraints-requires
with_constraints-requires c =
    let a = c.args.case.now in
    let one : List Constraint = c.args.constraint ∷ [] in
    let e : c.push.new.self.items ≡ a.constraints ++ one = c.in_ok-push.ensures.items ∙ ap (λ (l : List Constraint). l ++ one) (c.in_ok-constraints.ensures ∙ c.constraints.ensures.list) in
    subst (λ (l : List Constraint). IsCase (with_constraints l a)) (sym e) (added_is_case a c.args.constraint c.constraints.ensures.kept c.requires)
