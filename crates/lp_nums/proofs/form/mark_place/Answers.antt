use Rattle.lp_nums.specs.Decimals.{is_exponent_mark}
use Rattle.lp_nums.proofs.DigitLaws.{place_is}
use Rattle.lp_nums.proofs.form.mark_place.Goals as goal

pub returns-clause-place : goal.returns-clause-place
returns-clause-place c = place_is is_exponent_mark c.args.text.now c.mark.result c.unwrap_or.result c.mark.ensures c.unwrap_or.ensures
