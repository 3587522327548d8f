use Rattle.verifier.proofs.Exits.{certified, judged}
use Rattle.verifier.proofs.judging.case_and_certificate.Goals as goal

pub returns-in-Ok-certificate_in-clause-spelled : goal.returns-in-Ok-certificate_in-clause-spelled
returns-in-Ok-certificate_in-clause-spelled c = certified c.args.input.now c.in-Ok.place c.in-Ok.case c.in-Ok-certificate_in.cert c.in-Ok.ensures.spelled c.in-Ok-certificate_in.ensures.spelled

pub returns-in-Err-certificate_in-clause-refused : goal.returns-in-Err-certificate_in-clause-refused
returns-in-Err-certificate_in-clause-refused c = judged c.args.input.now c.in-Ok.place _ c.in-Err-certificate_in.answer c.requires c.in-Ok.ensures.spelled (c.in-Err-certificate_in.ensures.refused _)
