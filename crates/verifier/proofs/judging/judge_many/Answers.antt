use Rattle.verifier.proofs.Exits.{acceptance}
use Rattle.verifier.proofs.judging.judge_many.Goals as goal

pub returns-in-Ok : goal.returns-in-Ok
returns-in-Ok g c = acceptance c.args.input.now _ _ c.check_many.result c.accepted_or_not.result c.requires c.in-Ok.ensures.spelled c.check_many.ensures.accepted c.check_many.ensures.refused c.accepted_or_not.ensures
