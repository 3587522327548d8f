use Rattle.std.proofs.Common.{[], ◌∙◌, subst, rules}
use Rattle.lp_base.proofs.Machine.{again_64}
use Rattle.cert_text.specs.declared.cert.CertLine.TheVariants as line
use Rattle.cert_check.specs.Acceptance.{NoGoodFails}
use Rattle.cert_check.specs.Results.{Finds}
use Rattle.cert2_check.proofs.Faulting.{cut_plain, cut_listed}
use Rattle.cert2_check.proofs.line2.point_fault.Goals as goal

pub returns-in_default : goal.returns-in_default
returns-in_default c =
    let a = c.args.case.now in
    cut_plain c.args.earlier.now.lists c.args.list c.args.own.now (λ mult. NoGoodFails a c.args.value [] (line.Point c.args.ng.now c.args.e mult)) c.point_cut_fault.result c.in_default.is
    (subst (λ z. Finds (NoGoodFails a c.args.value [] (line.Point c.args.ng.now z c.args.own.now)) c.point_cut_fault.result) (again_64 c.args.e (search rules)) c.point_cut_fault.ensures)

pub returns : goal.returns
returns c =
    let a = c.args.case.now in
    cut_listed c.args.earlier.now.lists c.args.list c.in-Some.number c.args.own.now c.in-Some-list.listed.now c.as_slice.result.now (λ mult. NoGoodFails a c.args.value [] (line.Point c.args.ng.now c.args.e mult)) c.point_cut_fault-2.result
    c.in-Some.is c.in-Some-list.ensures.0 c.in-Some-list.ensures.1 (c.as_slice.ensures ∙ c.in_ok-all.ensures)
    (subst (λ z. Finds (NoGoodFails a c.args.value [] (line.Point c.args.ng.now z c.as_slice.result.now)) c.point_cut_fault-2.result) (again_64 c.args.e (search rules)) c.point_cut_fault-2.ensures)
