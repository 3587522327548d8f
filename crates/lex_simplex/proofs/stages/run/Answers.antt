use Rattle.std.proofs.Common.{subst, Option}
use Rattle.std.specs.Prelude.{IfSome}
use Rattle.lex_simplex.specs.declared.walk.End.{End}
use Rattle.lex_simplex.specs.Rounds.{IsEnd}
use Rattle.lex_simplex.proofs.stages.run.Goals as goal

pub returns-in-Some-clause-end : goal.returns-in-Some-clause-end
returns-in-Some-clause-end c = subst (λ (r : Option End). IfSome r (IsEnd c.args.case.now c.args.tight.now c.args.budget c.fix_all.new.walk)) c.in-Some.is (c.in_ok-end.ensures.end c.args.budget)
