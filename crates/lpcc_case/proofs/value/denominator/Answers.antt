use Rattle.std.proofs.Common.{rules, arith}
use Rattle.lp_base.specs.Numbers.{IsNarrow}
use Rattle.lp_base.proofs.Machine.{again}
use Rattle.lpcc_case.proofs.Products.{given_product, positive_product}
use Rattle.lpcc_case.proofs.value.denominator.Goals as goal

pub returns-clause-positive : goal.returns-clause-positive
returns-clause-positive c =
    let narrow : IsNarrow c.args.point.now.d = search rules in
    let p = given_product c.product.result c.scale.result c.args.case.now.scale c.args.point.now.d c.product.ensures c.scale.ensures.value c.scale.ensures.kept.scale narrow in
    rw (again c.product.result (omega (arith, p.1)), p.0) (positive_product c.args.case.now.scale c.args.point.now.d c.scale.ensures.kept.scale_positive c.requires)
