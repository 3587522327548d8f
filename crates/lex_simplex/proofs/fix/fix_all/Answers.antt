use Rattle.std.proofs.Common.{subst, Option}
use Rattle.std.specs.Prelude.{IfSome}
use Rattle.lex_simplex.specs.declared.walk.End.{End}
use Rattle.lex_simplex.specs.Rounds.{IsEnd}
use Rattle.lex_simplex.proofs.fix.fix_all.Goals as goal

pub returns-in-Some-clause-end : goal.returns-in-Some-clause-end
returns-in-Some-clause-end c = λ budget. subst (λ (r : Option End). IfSome r (IsEnd c.args.case.now c.args.tight.now budget c.look_on.new.self)) c.in-Some.is (c.in_ok-end.ensures.end budget)
