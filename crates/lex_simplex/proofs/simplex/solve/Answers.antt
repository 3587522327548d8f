use Rattle.dict.proofs.Exchanges.{ok_map}
use Rattle.lex_simplex.proofs.EndLaws.{not_spent}
use Rattle.lex_simplex.proofs.simplex.solve.Goals as goal

pub returns-clause-enough : goal.returns-clause-enough
returns-clause-enough c = λ enough. ok_map c.answer_of.result (λ answer h. not_spent c.args.case.now c.args.tight.now c.args.pivots answer c.constraints-constraints.ensures.kept enough h) c.answer_of.ensures
