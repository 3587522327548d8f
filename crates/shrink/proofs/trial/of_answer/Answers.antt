use Rattle.std.proofs.Common.{subst}
use Rattle.std.specs.Option.{option_copied}
use Rattle.lex_simplex.specs.Answers.{IsAnswer}
use Rattle.shrink.proofs.Shown.{ray_within}
use Rattle.shrink.proofs.trial.of_answer.Goals as goal

pub returns-in-Infeasible : goal.returns-in-Infeasible
returns-in-Infeasible c =
    ray_within c.args.case.now (option_copied c.args.limit) c.args.tight.now c.in-Infeasible.cut (subst (IsAnswer c.args.case.now c.args.tight.now c.args.pivots) c.in-Infeasible.is c.requires.answer)
