use Rattle.parallel_check.proofs.Lines.{unbounded_accepted, unbounded_refused}
use Rattle.parallel_check.proofs.many.judge_one.Goals as goal

pub returns-in-Unbounded-clause-accepted : goal.returns-in-Unbounded-clause-accepted
returns-in-Unbounded-clause-accepted g c =
    unbounded_accepted c.args.case.now c.args.cert.now c.in-Unbounded.piece c.in-Unbounded.point c.in-Unbounded.ray c.as_slice-in-Unbounded.result.now c.judge_unbounded.result c.in-Unbounded.is c.as_slice-in-Unbounded.ensures
    c.judge_unbounded.ensures.accepted

pub returns-in-Unbounded-clause-refused : goal.returns-in-Unbounded-clause-refused
returns-in-Unbounded-clause-refused g c =
    unbounded_refused c.args.case.now c.args.cert.now c.in-Unbounded.piece c.in-Unbounded.point c.in-Unbounded.ray c.as_slice-in-Unbounded.result.now c.judge_unbounded.result c.in-Unbounded.is c.as_slice-in-Unbounded.ensures
    c.judge_unbounded.ensures.refused
