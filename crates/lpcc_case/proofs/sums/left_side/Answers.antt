use Rattle.lpcc_case.proofs.Products.{left_side_small, left_side_more}
use Rattle.lpcc_case.proofs.sums.left_side.Goals as goal

pub add_product-sum-requires : goal.add_product-sum-requires
add_product-sum-requires c =
    rw c.loop-term.invariant (left_side_small c.args.constraint.now c.args.numbers.now c.loop-term.term-index c.requires.form c.requires.few c.requires.narrow)

pub loop-term-preserved : goal.loop-term-preserved
loop-term-preserved c =
    left_side_more c.args.constraint.now c.args.numbers.now c.as_slice-term-items.result.now c.loop-term.term-index _ c.add_product-sum.result c.requires.form c.requires.few c.requires.narrow c.as_slice-term-items.ensures c.loop-term-test.true c.loop-term.invariant c.add_product-sum.ensures
