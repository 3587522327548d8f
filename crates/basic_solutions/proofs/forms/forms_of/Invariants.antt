use Rattle.std.proofs.Common.{◌≡◌, ◌++◌, drop, map}
use Rattle.basic_solutions.specs.Orders.{form_of}
use Rattle.basic_solutions.proofs.forms.forms_of.Given as goal

abbrev pub invariant-loop-x : goal.invariant-loop-x
invariant-loop-x l = l.forms.items ++ map (form_of l.case) (drop l.x-index l.numbers) ≡ map (form_of l.case) l.numbers
