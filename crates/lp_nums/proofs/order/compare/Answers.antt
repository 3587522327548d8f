use Rattle.lp_nums.proofs.OrderLaws.{by_rests_read, by_wholes_read}
use Rattle.lp_nums.proofs.order.compare.Goals as goal

pub returns-in-Equal : goal.returns-in-Equal
returns-in-Equal c =
    by_rests_read c.cmp-in-Equal.result c.args.v c.args.e c.args.z c.args.d c.floor_of.result c.floor_of-2.result c.rest_of.result c.rest_of-in-Equal.result c.product.result c.product-in-Equal.result c.ranges.v c.ranges.e c.ranges.z c.ranges.d (record {
      sfits = c.floor_of.type_inv;
    }) (record { sfits = c.floor_of-2.type_inv }) (record { sfits = c.rest_of.type_inv }) (record { sfits = c.rest_of-in-Equal.type_inv }) (record { sfits = c.product.type_inv }) (record { sfits = c.product-in-Equal.type_inv }) c.requires.first c.requires.second c.in-Equal.ensures c.floor_of.ensures c.floor_of-2.ensures c.rest_of.ensures.value c.rest_of-in-Equal.ensures.value c.product.ensures c.product-in-Equal.ensures c.cmp-in-Equal.ensures

pub returns-in_default : goal.returns-in_default
returns-in_default c =
    by_wholes_read c.cmp.result c.args.v c.args.e c.args.z c.args.d c.floor_of.result c.floor_of-2.result c.ranges.v c.ranges.e c.ranges.z c.ranges.d (record {
      sfits = c.floor_of.type_inv;
    }) (record { sfits = c.floor_of-2.type_inv }) c.requires.first c.requires.second c.in_default.not-Equal c.cmp.ensures c.floor_of.ensures c.floor_of-2.ensures
