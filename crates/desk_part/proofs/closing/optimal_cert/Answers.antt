use Rattle.std.proofs.Common.{◌≤◌, ◌^◌, arith, subst, sym}
use Rattle.std.specs.Prelude.{unsigned_abs}
use Rattle.lp_base.proofs.Machine.{again}
use Rattle.desk_part.proofs.CloseLaws.{z_small}
use Rattle.desk_part.proofs.closing.optimal_cert.Goals as goal

pub returns-clause-form : goal.returns-clause-form
returns-clause-form c =
    let small = z_small c.args.case.now c.args.best.now c.requires.is_case c.requires.numbers in
    let read = again c.args.best.now.z (omega (arith, small)) in
    (c.in_ok-point.ensures.form, subst (λ y. unsigned_abs y ≤ 2 ^ 126) (sym read) small, c.requires.lines)
