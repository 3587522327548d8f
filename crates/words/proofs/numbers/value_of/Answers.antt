use Rattle.words.proofs.Values.{past}
use Rattle.words.proofs.numbers.value_of.Goals as goal

pub returns-then-value : goal.returns-then-value
returns-then-value c = past c.loop-digit.value c.loop-digit.digit-index c.args.digits.now c.loop-digit-test.true c.if-value.true c.loop-digit.invariant
