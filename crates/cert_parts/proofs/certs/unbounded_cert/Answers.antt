use Rattle.std.proofs.Common.{◌≤◌, arith, length}
use Rattle.cert_parts.proofs.FormLaws.{choices_keep_form}
use Rattle.cert_parts.proofs.certs.unbounded_cert.Goals as goal

pub returns-clause-form : goal.returns-clause-form
returns-clause-form c =
    let few : length c.args.case.now.pairs ≤ 512 = omega (arith, c.pairs-pairs.ensures.kept.few_pairs) in
    (choices_keep_form c.args.case.now c.args.piece few c.choices-choices.ensures.ascending c.requires.named, c.in_ok-point.ensures.form, c.in_ok-ray.ensures.form)
