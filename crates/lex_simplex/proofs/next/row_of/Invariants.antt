use Rattle.std.proofs.Common.{ℕ, ◌<◌, ◌≡◌}
use Rattle.lpcc_case.specs.declared.form.Form.TheVariants as form
use Rattle.dict.specs.Dictionaries.{form_at}
use Rattle.lex_simplex.proofs.next.row_of.Given as goal

abbrev pub invariant-loop-i : goal.invariant-loop-i
invariant-loop-i l = (n : ℕ) → n < l.i → form_at l.dict.basic n ≡ form.Con l.k → ⊥
