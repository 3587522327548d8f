use Rattle.std.proofs.Common.{rules}
use Rattle.lp_base.proofs.Machine.{again_64}
use Rattle.cert2_check.proofs.Faulting.{point_over}
use Rattle.cert2_check.proofs.line2.point_fault_over.Goals as goal

pub returns : goal.returns
returns c =
    point_over c.args.case.now c.args.value _ c.args.earlier.now c.args.ng.now c.args.e _ c.args.list c.args.own.now c.point_fault.result c.in-Some.is (again_64 c.args.e (search rules)) c.point_fault.ensures
