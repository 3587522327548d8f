use Rattle.std.proofs.Common.{rules}
use Rattle.lp_base.proofs.Machine.{again_64}
use Rattle.cert2_check.proofs.Faulting.{ray_over, point_line, forget_passes, forget_fails}
use Rattle.cert2_check.proofs.line2.line_fault.Goals as goal

pub returns-in-Ray : goal.returns-in-Ray
returns-in-Ray c =
    ray_over c.args.case.now c.args.value c.args.earlier.now c.args.line.now c.in-Ray.ng c.in-Ray.list c.as_slice.result.now c.in-Ray.mult c.ray_fault.result c.in-Ray.is c.as_slice.ensures c.ray_fault.ensures

pub returns-in-Point : goal.returns-in-Point
returns-in-Point c =
    point_line c.args.case.now c.args.value c.args.earlier.now c.args.line.now c.in-Point.ng c.in-Point.e _ c.in-Point.list c.as_slice-in-Point.result.now c.in-Point.mult c.point_fault_over.result c.in-Point.is c.as_slice-in-Point.ensures
    (again_64 c.in-Point.e (search rules)) c.point_fault_over.ensures

pub returns-in-Forget : goal.returns-in-Forget
returns-in-Forget c = forget_passes c.args.case.now c.args.value c.args.earlier.now c.args.line.now c.in-Forget.lines c.may_drop.result c.in-Forget.is c.may_drop.ensures c.if-may_drop.true

pub returns-in-Forget-2 : goal.returns-in-Forget-2
returns-in-Forget-2 c = forget_fails c.args.case.now c.args.value c.args.earlier.now c.args.line.now c.in-Forget.lines c.may_drop.result c.in-Forget.is c.may_drop.ensures c.if-may_drop.false
