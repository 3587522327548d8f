use Rattle.std.proofs.Common.{◌∙◌, ap, arith, pos}
use Rattle.std.specs.Int.{w128}
use Rattle.std.proofs.lemmas.Int.{ints, to_z_pos}
use Rattle.lp_nums.proofs.DecimalLaws.{ten_small}
use Rattle.lp_nums.proofs.decimals.ten_to.Goals as goal

pub pow-requires : goal.pow-requires
pow-requires c = let h = ten_small c.args.power c.requires in omega arith

pub overflow_cast-result : goal.overflow_cast-result
overflow_cast-result c =
    let h = ten_small c.args.power c.requires in
    omega (arith, ints, c.pow.ensures)

pub returns : goal.returns
returns c =
    let h = ten_small c.args.power c.requires in
    to_z_pos w128 c.pow.result (omega (arith, c.pow.ensures)) ∙ ap pos c.pow.ensures
