use Rattle.std.proofs.Common.{◌≤◌, ◌^◌, arith, subst, sym}
use Rattle.std.specs.Prelude.{unsigned_abs}
use Rattle.lp_base.proofs.Machine.{again}
use Rattle.cert_parts.proofs.FormLaws.{z_small}
use Rattle.cert_parts.proofs.certs.optimal_cert.Goals as goal

pub returns-clause-form : goal.returns-clause-form
returns-clause-form c =
    let small = z_small c.args.case.now c.args.best.now c.pairs-pairs.ensures.kept c.requires.numbers in
    let read = again c.args.best.now.z (omega (arith, small)) in
    (c.in_ok-point.ensures.form, subst (λ y. unsigned_abs y ≤ 2 ^ 126) (sym read) small, c.requires.lines)
