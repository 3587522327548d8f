use Rattle.parallel_check.proofs.Cuts.{none_found}
use Rattle.parallel_check.proofs.testing.is_faultless.Goals as goal

pub returns-in-Ok-None : goal.returns-in-Ok-None
returns-in-Ok-None c holds = none_found c.args.case.now c.args.value c.args.earlier.now c.args.line.now c.in-Ok-None.field-0 c.in-Ok-None.field-0-is c.in-Ok-None.ensures
