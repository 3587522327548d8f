use Rattle.std.proofs.Common.{ℕ, ◌≡◌, ◌∙◌, sym, ap, subst, List, map}
use Rattle.std.specs.Prelude.{IsPermutation, IsTrue}
use Rattle.std.specs.List.Sorted.{IsNonDecreasingBy}
use Rattle.std.proofs.lemmas.List.Sorted.{IsNonDecreasingBy-from_sort}
use Rattle.lp_base.specs.Ascending.{ascends_by}
use Rattle.lpcc_case.specs.declared.form.Form.{Form}
use Rattle.lpcc_case.specs.Forms.{number}
use Rattle.basic_solutions.specs.Orders.{form_of}
use Rattle.basic_solutions.proofs.FormSteps.{forms_ascend, same_forms}
use Rattle.basic_solutions.proofs.forms.in_order.Goals as goal

pub returns-clause-same : goal.returns-clause-same
returns-clause-same c =
    let a = c.args.case.now in
    let permutes : IsPermutation (map (number a) c.args.forms.now) c.sort_unstable.new.self.items = subst (λ (xs : List ℕ). IsPermutation xs c.sort_unstable.new.self.items) c.in_ok-numbers.ensures c.sort_unstable.ensures.permutation in
    let made : c.of_vec.result ≡ map (form_of a) c.sort_unstable.new.self.items = c.of_vec.ensures ∙ c.in_ok-made.ensures ∙ ap (map (form_of a)) c.deref.ensures.value in
    subst (λ (fs : List Form). IsPermutation c.args.forms.now fs) (sym made) (same_forms a c.args.forms.now c.sort_unstable.new.self.items c.requires.named permutes)

pub returns-clause-order : goal.returns-clause-order
returns-clause-order c =
    let a = c.args.case.now in
    let permutes : IsPermutation (map (number a) c.args.forms.now) c.sort_unstable.new.self.items = subst (λ (xs : List ℕ). IsPermutation xs c.sort_unstable.new.self.items) c.in_ok-numbers.ensures c.sort_unstable.ensures.permutation in
    let made : c.of_vec.result ≡ map (form_of a) c.sort_unstable.new.self.items = c.of_vec.ensures ∙ c.in_ok-made.ensures ∙ ap (map (form_of a)) c.deref.ensures.value in
    let up : IsNonDecreasingBy (λ x. x) c.sort_unstable.new.self.items = IsNonDecreasingBy-from_sort (λ x. x) c.sort_unstable.new.self.items c.sort_unstable.ensures.sorted in
    subst (λ (fs : List Form). IsTrue (ascends_by (number a) fs)) (sym made) (forms_ascend a c.args.forms.now c.sort_unstable.new.self.items c.requires.named c.requires.once permutes up)
