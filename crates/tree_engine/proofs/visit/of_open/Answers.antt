use Rattle.std.proofs.Common.{subst}
use Rattle.std.specs.Prelude.{IfSome}
use Rattle.std.specs.Option.{option_copied}
use Rattle.tree_engine.specs.Paths.{IsFirstFree}
use Rattle.tree_engine.proofs.Visits.{open_splits}
use Rattle.tree_engine.proofs.visit.of_open.Goals as goal

pub returns-in-Some : goal.returns-in-Some
returns-in-Some c =
    open_splits c.args.case.now c.args.pivots (option_copied c.args.best) c.args.path.now c.in-Some.pair c.args.answer c.requires.open c.requires.answer (subst (λ r. IfSome r (IsFirstFree c.args.case.now c.args.path.now)) c.in-Some.is c.first_free.ensures.free)
