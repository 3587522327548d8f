use Rattle.std.proofs.Common.{◌≡◌, map}
use Rattle.std.specs.List.{range_with_len}
use Rattle.lpcc_case.specs.declared.form.Form.TheVariants.{Con}
use Rattle.dict.proofs.start.basic_of.Given as goal

abbrev pub invariant-loop-i : goal.invariant-loop-i
invariant-loop-i l = l.forms.items ≡ map Con (range_with_len 0 l.i)
