use Rattle.std.proofs.Common.{◌∙◌, sym}
use Rattle.std.proofs.lemmas.Bool.{eq-eqb, ne_eqb}
use Rattle.cert_text.proofs.Caps.{whole_empty, whole_minus, whole_plain}
use Rattle.front_text.proofs.tokens.parse_signed.Goals as goal

pub returns-in_default-clause-value : goal.returns-in_default-clause-value
returns-in_default-clause-value c = sym (whole_empty c.args.word.now c.in_default.ensures.cases)

pub returns-then-first-eq45-clause-value : goal.returns-then-first-eq45-clause-value
returns-then-first-eq45-clause-value c = c.parse_negative.ensures.value ∙ whole_minus c.args.word.now c.in-Some.digits.now c.in-Some.first.now c.in-Some.ensures.cases.0 (eq-eqb c.in-Some.first.now 45 c.if-first-eq45.true)

pub returns-clause-value : goal.returns-clause-value
returns-clause-value c = c.parse_nonnegative.ensures.value ∙ whole_plain c.args.word.now c.in-Some.digits.now c.in-Some.first.now c.in-Some.ensures.cases.0 (ne_eqb c.in-Some.first.now 45 c.if-first-eq45.false)
