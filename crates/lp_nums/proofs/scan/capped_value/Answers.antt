use Rattle.std.proofs.Common.{◌^◌, ◌∙◌, sym, ap, arith, take, get_or}
use Rattle.std.specs.Prelude.{min}
use Rattle.std.specs.Char.{digit_value}
use Rattle.std.specs.Str.Parse.{digits_value}
use Rattle.std.proofs.lemmas.Int.Digits.{digits_value_more}
use Rattle.lp_nums.proofs.DigitLaws.{capped}
use Rattle.lp_nums.proofs.scan.capped_value.Goals as goal

pub loop-byte-preserved : goal.loop-byte-preserved
loop-byte-preserved c =
    let xs = c.args.numeral.now in
    let i = c.loop-byte.byte-index in
    let more = digits_value_more 10 xs i (omega arith) in
    capped (digits_value 10 (take i xs)) (digit_value (get_or xs i 0)) c.loop-byte.value c.from.result c.min-value.result c.loop-byte.invariant (c.from.ensures ∙ c.digit_of.ensures.value) c.min-value.ensures
    ∙ ap (min (2 ^ 100)) (sym more)
