use Rattle.std.proofs.Common.{◌∙◌, ◌++◌, ◌∷◌, [], sym, ap, arith}
use Rattle.std.proofs.lemmas.List.FromFn.{map-range_with_len_more}
use Rattle.lpcc_case.specs.declared.form.Form.TheVariants.{Con}
use Rattle.dict.proofs.start.basic_of.Goals as goal

pub loop-i-preserved : goal.loop-i-preserved
loop-i-preserved c = c.in_ok-put_form.ensures ∙ ap (λ z. z ++ Con c.loop-i.i ∷ []) c.loop-i.invariant ∙ sym (map-range_with_len_more Con 0 c.loop-i.i c.loop-i.i (omega arith))
