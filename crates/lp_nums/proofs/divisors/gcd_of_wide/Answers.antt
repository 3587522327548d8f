use Rattle.std.proofs.Common.{◌*◌, ◌^◌, arith}
use Rattle.std.specs.Int.{trailing_zeros, w128}
use Rattle.lp_nums.proofs.GcdLaws.{IsGcd-from_odd_parts, IsGcd-in_width}
use Rattle.lp_nums.proofs.divisors.gcd_of_wide.Goals as goal

pub returns : goal.returns
returns c =
    let a = c.args.a in
    let b = c.args.b in
    let g = c.gcd_of_wide_odd.result in
    let n = c.min-twos.result in
    IsGcd-in_width a b (g * 2 ^ n) (2 ^ 128) (omega arith) (omega arith)
    (IsGcd-from_odd_parts a b c.wide_odd_part.result c.wide_odd_part-2.result (trailing_zeros w128 a) (trailing_zeros w128 b) n g c.wide_odd_part.ensures.value c.wide_odd_part-2.ensures.value c.wide_odd_part.ensures.odd c.wide_odd_part-2.ensures.odd c.min-twos.ensures c.gcd_of_wide_odd.ensures)
