use Rattle.std.proofs.Common.{◌+◌, ◌*◌, ◌^◌, arith}
use Rattle.lp_nums.proofs.DigitLaws.{appended_room, below_ten_to, next_digit}
use Rattle.lp_nums.proofs.scan.Significand.with_digit.Goals as goal

pub appended-value-requires-clause-room : goal.appended-value-requires-clause-room
appended-value-requires-clause-room c =
    let s = c.args.self in
    let wide = appended_room s.value s.width s.zeros c.digit_of-digit.result (c.requires.small (omega arith)) c.digit_of-digit.ensures.below in
    let fits = below_ten_to (s.width + s.zeros + 1) 18 (s.value * 10 ^ (s.zeros + 1) + c.digit_of-digit.result) wide c.if-width-le-MOST_DIGITS.true in
    omega arith

pub returns-then-width-le-MOST_DIGITS-clause-digits : goal.returns-then-width-le-MOST_DIGITS-clause-digits
returns-then-width-le-MOST_DIGITS-clause-digits c =
    λ ds h. next_digit ds c.args.self c.appended-value.result c.args.byte c.if-byte-eq48.false (λ l. omega (arith, c.appended-value.ensures, c.digit_of-digit.ensures.value)) (omega (arith, c.digit_of-digit.ensures.value)) h

pub returns-else-width-le-MOST_DIGITS-clause-digits : goal.returns-else-width-le-MOST_DIGITS-clause-digits
returns-else-width-le-MOST_DIGITS-clause-digits c =
    λ ds h. next_digit ds c.args.self 0 c.args.byte c.if-byte-eq48.false (λ l. absurd (omega arith)) (omega (arith, c.digit_of-digit.ensures.value)) h
