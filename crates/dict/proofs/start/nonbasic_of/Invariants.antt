use Rattle.std.proofs.Common.{◌≡◌, map}
use Rattle.std.specs.List.{range_with_len}
use Rattle.lpcc_case.specs.declared.form.Form.TheVariants.{Col}
use Rattle.dict.proofs.start.nonbasic_of.Given as goal

abbrev pub invariant-loop-j : goal.invariant-loop-j
invariant-loop-j l = l.forms.items ≡ map Col (range_with_len 0 l.j)
