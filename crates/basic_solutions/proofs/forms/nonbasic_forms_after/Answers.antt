use Rattle.std.proofs.Common.{ℕ, ◌<◌, ◌≡◌, ◌∙◌, sym, subst, arith, List, length}
use Rattle.lpcc_case.specs.declared.form.Form.{Form}
use Rattle.dict.specs.Dictionaries.{form_at}
use Rattle.walks.specs.Duals.{IsNamed}
use Rattle.basic_solutions.proofs.FormSteps.{after_named, after_once}
use Rattle.basic_solutions.proofs.forms.nonbasic_forms_after.Goals as goal

pub in_order-requires-clause-named : goal.in_order-requires-clause-named
in_order-requires-clause-named c =
    let list = c.deref.ensures.value ∙ c.in_ok-forms.ensures in
    subst (λ (fs : List Form). (j : ℕ) → j < length fs → IsNamed c.args.case.now (form_at fs j)) (sym list) (after_named c.args.case.now c.args.dict.now c.args.row c.args.col c.requires.placed c.requires.row c.requires.col)

pub in_order-requires-clause-once : goal.in_order-requires-clause-once
in_order-requires-clause-once c =
    let list = c.deref.ensures.value ∙ c.in_ok-forms.ensures in
    let inside : c.args.row < length c.args.dict.now.rows = omega (arith, c.requires.row, c.requires.placed.size) in
    subst (λ (fs : List Form). (i j : ℕ) → i < length fs → j < length fs → form_at fs i ≡ form_at fs j → i ≡ j) (sym list) (after_once c.args.case.now c.args.dict.now c.args.row c.args.col c.requires.sized inside c.requires.col)
