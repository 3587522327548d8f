use Rattle.lpcc_case.proofs.Products.{cost_small, cost_more}
use Rattle.lpcc_case.proofs.sums.cost_of.Goals as goal

pub add_product-sum-requires : goal.add_product-sum-requires
add_product-sum-requires c =
    rw c.loop-j.invariant (cost_small c.args.case.now c.args.numbers.now c.loop-j.j c.cost-cost-items.ensures.kept c.requires)

pub loop-j-preserved : goal.loop-j-preserved
loop-j-preserved c =
    cost_more c.args.case.now c.args.numbers.now c.cost-cost-items.result.now c.loop-j.j _ c.add_product-sum.result c.cost-cost-items.ensures.kept c.requires c.cost-cost-items.ensures.list c.loop-j-test.true c.loop-j.invariant c.add_product-sum.ensures
