use Rattle.std.proofs.Common.{◌≤◌, arith, length, subst, sym}
use Rattle.cert_text.specs.Certs.{IsNoGood}
use Rattle.desk_part.proofs.CloseLaws.{piece_keeps_form}
use Rattle.desk_part.proofs.closing.unbounded_cert.Goals as goal

pub returns-clause-form : goal.returns-clause-form
returns-clause-form c =
    let few : length c.args.case.now.pairs ≤ 512 = omega (arith, c.requires.is_case.few_pairs) in
    (subst IsNoGood (sym c.in_ok-piece.ensures) (piece_keeps_form c.args.case.now c.args.kept.now.piece few c.requires.kept.piece), c.in_ok-point.ensures.form, c.in_ok-ray.ensures.form)
