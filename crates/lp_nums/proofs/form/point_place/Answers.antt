use Rattle.lp_nums.specs.Decimals.{is_point}
use Rattle.lp_nums.proofs.DigitLaws.{place_is}
use Rattle.lp_nums.proofs.form.point_place.Goals as goal

pub returns-clause-place : goal.returns-clause-place
returns-clause-place c = place_is is_point c.args.text.now c.point.result c.unwrap_or.result c.point.ensures c.unwrap_or.ensures
