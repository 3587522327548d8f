use Rattle.std.proofs.Common.{ℕ, ◌<◌, ◌≡◌, sym, subst, List, length}
use Rattle.lpcc_case.specs.declared.form.Form.{Form}
use Rattle.dict.specs.Dictionaries.{form_at}
use Rattle.basic_solutions.proofs.FormSteps.{nonbasic_once}
use Rattle.basic_solutions.proofs.forms.nonbasic_forms.Goals as goal

pub in_order-requires-clause-once : goal.in_order-requires-clause-once
in_order-requires-clause-once c =
    subst (λ (fs : List Form). (i j : ℕ) → i < length fs → j < length fs → form_at fs i ≡ form_at fs j → i ≡ j) (sym c.nonbasic_forms.ensures.list) (nonbasic_once c.args.case.now c.args.dict.now c.requires.sized)
