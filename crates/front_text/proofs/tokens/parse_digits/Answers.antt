use Rattle.std.proofs.Common.{rules}
use Rattle.cert_text.proofs.Caps.{digit_refused, digits_end}
use Rattle.front_text.proofs.tokens.parse_digits.Goals as goal

pub returns-in_err-value-clause-value : goal.returns-in_err-value-clause-value
returns-in_err-value-clause-value c = search (rules, digit_refused c.loop-byte.value c.loop-byte.byte-index c.args.word.now _ c.loop-byte-test.true c.in_err-value.ensures.value c.loop-byte.invariant.0)

pub returns-clause-value : goal.returns-clause-value
returns-clause-value c = digits_end c.loop-byte.value c.loop-byte.byte-index c.args.word.now c.loop-byte-test.false c.loop-byte.invariant.0
