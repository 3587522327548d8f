use Rattle.std.proofs.Common.{◌≤◌, arith, subst, sym}
use Rattle.cert_text.specs.Certs.{AreTerms}
use Rattle.cert_parts.proofs.FormLaws.{terms_keep_form}
use Rattle.cert_parts.proofs.points.terms_of.Goals as goal

pub returns-clause-form : goal.returns-clause-form
returns-clause-form c =
    let few : c.args.case.now.columns ≤ 1000 = omega (arith, c.requires.is_case.few_columns) in
    subst AreTerms (sym c.in_ok-made.ensures) (terms_keep_form c.args.case.now c.args.numbers.now few c.requires.numbers)
