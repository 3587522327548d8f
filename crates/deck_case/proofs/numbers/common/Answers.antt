use Rattle.std.proofs.Common.{◌*◌, ◌<◌, subst}
use Rattle.std.proofs.Math.Nat.{pos_of_dvd_of_pos}
use Rattle.deck_case.proofs.Multiples.{same_lcm}
use Rattle.deck_case.proofs.Wholes.{common_read}
use Rattle.deck_case.proofs.numbers.common.Goals as goal

pub nonzero_div-known : goal.nonzero_div-known
nonzero_div-known c = pos_of_dvd_of_pos c.common_divisor.ensures.0 c.requires.positive

pub returns-then-least-gt-LARGEST_OF_CASE : goal.returns-then-least-gt-LARGEST_OF_CASE
returns-then-least-gt-LARGEST_OF_CASE c =
    let made = common_read c.args.known c.args.den c.common_divisor.result c.from.result c.from-2.result c.requires.positive c.common_divisor.ensures c.from.ensures c.from-2.ensures in
    λ l h. subst (λ n. 4503599627370496 < n) (same_lcm c.args.known c.args.den (c.from.result * c.from-2.result) l made h) c.if-least-gt-LARGEST_OF_CASE.true

pub returns-else-least-gt-LARGEST_OF_CASE : goal.returns-else-least-gt-LARGEST_OF_CASE
returns-else-least-gt-LARGEST_OF_CASE c =
    (common_read c.args.known c.args.den c.common_divisor.result c.from.result c.from-2.result c.requires.positive c.common_divisor.ensures c.from.ensures c.from-2.ensures, c.if-least-gt-LARGEST_OF_CASE.false)
