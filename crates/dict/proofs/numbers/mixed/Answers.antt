use Rattle.dict.proofs.Machine.{mixed_is}
use Rattle.dict.proofs.numbers.mixed.Goals as goal

pub returns-clause-value : goal.returns-clause-value
returns-clause-value c =
    mixed_is c.args.p c.args.x c.args.a c.args.y c.narrow_product.result c.narrow_product-2.result c.requires.p c.requires.x c.requires.a c.requires.y c.narrow_product.ensures.value c.narrow_product-2.ensures.value c.narrow_product.ensures.small c.narrow_product-2.ensures.small
