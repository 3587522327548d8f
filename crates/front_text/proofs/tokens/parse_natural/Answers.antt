use Rattle.std.proofs.Common.{◌∙◌, sym}
use Rattle.front_text.proofs.Naturals.{natural_none, natural_zero, natural_digits}
use Rattle.front_text.proofs.tokens.parse_natural.Goals as goal

pub returns-in_default-clause-value : goal.returns-in_default-clause-value
returns-in_default-clause-value c = natural_none c.args.word.now c.in_default.ensures.cases

pub returns-then-has_zero_front-clause-value : goal.returns-then-has_zero_front-clause-value
returns-then-has_zero_front-clause-value c = natural_zero c.args.word.now c.in-Some.rest.now c.in-Some.first.now c.in-Some.ensures.cases.0 (sym c.if-has_zero_front.ensures)

pub returns-clause-value : goal.returns-clause-value
returns-clause-value c = c.parse_digits.ensures.value ∙ natural_digits c.args.word.now c.in-Some.rest.now c.in-Some.first.now c.in-Some.ensures.cases.0 (sym c.if-has_zero_front.ensures)
