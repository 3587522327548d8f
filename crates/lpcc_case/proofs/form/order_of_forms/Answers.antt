use Rattle.lpcc_case.proofs.FormOrder.{by_number, precedes-self, precedes-trans}
use Rattle.lpcc_case.proofs.form.order_of_forms.Goals as goal

pub returns : goal.returns
returns c = record { by_number = by_number; irreflexive = precedes-self; transitive = precedes-trans }
