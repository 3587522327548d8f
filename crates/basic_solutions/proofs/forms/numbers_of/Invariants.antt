use Rattle.std.proofs.Common.{◌≡◌, ◌++◌, drop, map}
use Rattle.lpcc_case.specs.Forms.{number}
use Rattle.basic_solutions.proofs.forms.numbers_of.Given as goal

abbrev pub invariant-loop-form : goal.invariant-loop-form
invariant-loop-form l = l.numbers.items ++ map (number l.case) (drop l.form-index l.forms) ≡ map (number l.case) l.forms
