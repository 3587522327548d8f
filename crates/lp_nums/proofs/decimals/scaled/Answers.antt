use Rattle.lp_nums.proofs.DecimalLaws.{ten_positive, value_small}
use Rattle.lp_nums.proofs.decimals.scaled.Goals as goal

pub reduced-requires-clause-positive : goal.reduced-requires-clause-positive
reduced-requires-clause-positive c = ten_positive c.unsigned_abs.result c.ten_to-ten.result c.ten_to-ten.type_inv c.ten_to-ten.ensures

pub reduced-requires-clause-room : goal.reduced-requires-clause-room
reduced-requires-clause-room c = value_small c.args.value c.args.power c.ranges.value c.requires.room
