use Rattle.verifier.proofs.Exits.{acceptance}
use Rattle.verifier.proofs.judging.judge.Goals as goal

pub returns-in-Ok : goal.returns-in-Ok
returns-in-Ok c = acceptance c.args.input.now _ _ c.check_any.result c.accepted_or_not.result c.requires c.in-Ok.ensures.spelled c.check_any.ensures.accepted c.check_any.ensures.refused c.accepted_or_not.ensures
