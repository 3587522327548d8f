use Rattle.std.proofs.Common.{subst}
use Rattle.std.specs.Option.{option_copied}
use Rattle.lex_simplex.specs.Answers.{IsAnswer}
use Rattle.tree_engine.proofs.Visits.{ray_leaf}
use Rattle.tree_engine.proofs.visit.of_answer.Goals as goal

pub returns-in-Infeasible : goal.returns-in-Infeasible
returns-in-Infeasible c =
    ray_leaf c.args.case.now (option_copied c.args.best) c.args.path.now c.in-Infeasible.cut (subst (IsAnswer c.args.case.now c.args.path.now c.args.pivots) c.in-Infeasible.is c.requires.answer)
