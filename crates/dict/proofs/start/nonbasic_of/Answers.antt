use Rattle.std.proofs.Common.{◌∙◌, ◌++◌, ◌∷◌, [], sym, ap, arith}
use Rattle.std.proofs.lemmas.List.FromFn.{map-range_with_len_more}
use Rattle.lpcc_case.specs.declared.form.Form.TheVariants.{Col}
use Rattle.dict.proofs.start.nonbasic_of.Goals as goal

pub loop-j-preserved : goal.loop-j-preserved
loop-j-preserved c = c.in_ok-put_form.ensures ∙ ap (λ z. z ++ Col c.loop-j.j ∷ []) c.loop-j.invariant ∙ sym (map-range_with_len_more Col 0 c.loop-j.j c.loop-j.j (omega arith))
