use Rattle.cert2_check.proofs.Answering2.{gives_verdict, gives_refusal, gives_truth}
use Rattle.parallel_check.proofs.many.check_many.Goals as goal

pub returns-clause-only_accepted : goal.returns-clause-only_accepted
returns-clause-only_accepted g c v h =
    gives_verdict c.args.case.now c.args.cert.now c.judge.result v c.pairs-pairs.ensures.kept.scale_positive c.judge.ensures.accepted c.judge.ensures.refused h

pub returns-clause-only_refused : goal.returns-clause-only_refused
returns-clause-only_refused g c line why h = gives_refusal c.args.case.now c.args.cert.now c.judge.result line why c.judge.ensures.accepted c.judge.ensures.refused h

pub returns-clause-sound : goal.returns-clause-sound
returns-clause-sound g c = gives_truth c.args.case.now c.args.cert.now c.judge.result c.judge.ensures.accepted
