use Rattle.dict.specs.Dictionaries.{form_at, row_at}
use Rattle.dict.specs.Exchanges.{turn}
use Rattle.walks.specs.Values.{share}
use Rattle.basic_solutions.proofs.WeightSteps.{TermsOf}
use Rattle.basic_solutions.proofs.duals.multipliers.Given as goal

abbrev pub invariant-loop-k : goal.invariant-loop-k
invariant-loop-k l = TermsOf (λ k. turn l.sign (share (row_at l.dict.rows l.row) l.dict.nonbasic (form_at l.dict.basic l.row) k)) l.k l.out.items
