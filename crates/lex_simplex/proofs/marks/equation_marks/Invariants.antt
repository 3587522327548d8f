use Rattle.std.proofs.Common.{◌≡◌, map, take}
use Rattle.walks.specs.Values.{is_equation}
use Rattle.lex_simplex.proofs.marks.equation_marks.Given as goal

abbrev pub invariant-loop-constraint : goal.invariant-loop-constraint
invariant-loop-constraint l = l.marks.items ≡ map (λ c. is_equation c.kind) (take l.constraint-index l.constraints)
