use Rattle.cert2_check.proofs.Tested.{none_tested_in}
use Rattle.cert2_check.proofs.accept2.judge.Goals as goal

pub judge_two-requires-clause-tested : goal.judge_two-requires-clause-tested
judge_two-requires-clause-tested c = none_tested_in c.args.case.now c.in-Two.cert
