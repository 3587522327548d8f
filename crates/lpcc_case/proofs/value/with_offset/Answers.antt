use Rattle.std.proofs.Common.{◌∙◌, rules, ap, ◌+ℤ◌}
use Rattle.lp_base.specs.Numbers.{IsNarrow}
use Rattle.lpcc_case.proofs.Products.{given_product, sum_again, sum_small}
use Rattle.lpcc_case.proofs.value.with_offset.Goals as goal

pub returns-clause-value : goal.returns-clause-value
returns-clause-value c =
    let narrow : IsNarrow c.args.point.now.d = search rules in
    let p = given_product c.product.result c.offset.result c.args.case.now.offset c.args.point.now.d c.product.ensures c.offset.ensures.value c.offset.ensures.kept.offset narrow in
    sum_again c.args.point.now.z c.product.result c.requires.room p.1 ∙ ap (λ z. c.args.point.now.z +ℤ z) p.0

pub returns-clause-small : goal.returns-clause-small
returns-clause-small c =
    let narrow : IsNarrow c.args.point.now.d = search rules in
    let p = given_product c.product.result c.offset.result c.args.case.now.offset c.args.point.now.d c.product.ensures c.offset.ensures.value c.offset.ensures.kept.offset narrow in
    rw (sum_again c.args.point.now.z c.product.result c.requires.room p.1) (sum_small c.args.point.now.z c.product.result c.requires.room p.1)
