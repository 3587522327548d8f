use Rattle.lp_nums.proofs.DigitLaws.{first_zero, more_zeros}
use Rattle.lp_nums.proofs.scan.Significand.with_zero.Goals as goal

pub returns-then-self-eq0-clause-digits : goal.returns-then-self-eq0-clause-digits
returns-then-self-eq0-clause-digits c = λ ds h. first_zero ds c.args.self c.if-self-eq0.true h

pub returns-clause-digits : goal.returns-clause-digits
returns-clause-digits c = λ ds h. more_zeros ds c.args.self c.if-self-eq0.false h
