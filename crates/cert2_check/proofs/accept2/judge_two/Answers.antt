use Rattle.std.proofs.Common.{rules}
use Rattle.std.proofs.lemmas.Int.{to_z-of_z}
use mir.Syntax.{w128}
use Rattle.cert2_check.proofs.Tested.{optimal_tested}
use Rattle.cert2_check.proofs.Judging2.{unbounded_accepted, unbounded_refused}
use Rattle.cert2_check.proofs.accept2.judge_two.Goals as goal

pub judge_optimal-requires-clause-tested : goal.judge_optimal-requires-clause-tested
judge_optimal-requires-clause-tested c =
    optimal_tested c.args.case.now c.args.cert.now c.args.tested.now c.in-Optimal.point c.in-Optimal.z _ c.in-Optimal.lines c.as_slice.result.now c.in-Optimal.is c.as_slice.ensures (to_z-of_z w128 c.in-Optimal.z (search rules)) c.requires.tested

pub returns-in-Unbounded-clause-accepted : goal.returns-in-Unbounded-clause-accepted
returns-in-Unbounded-clause-accepted c =
    unbounded_accepted c.args.case.now c.args.cert.now c.in-Unbounded.piece c.in-Unbounded.point c.in-Unbounded.ray c.as_slice-in-Unbounded.result.now c.judge_unbounded.result c.in-Unbounded.is c.as_slice-in-Unbounded.ensures
    c.judge_unbounded.ensures.accepted

pub returns-in-Unbounded-clause-refused : goal.returns-in-Unbounded-clause-refused
returns-in-Unbounded-clause-refused c =
    unbounded_refused c.args.case.now c.args.cert.now c.in-Unbounded.piece c.in-Unbounded.point c.in-Unbounded.ray c.as_slice-in-Unbounded.result.now c.judge_unbounded.result c.in-Unbounded.is c.as_slice-in-Unbounded.ensures
    c.judge_unbounded.ensures.refused
