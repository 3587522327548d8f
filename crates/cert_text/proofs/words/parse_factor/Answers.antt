use Rattle.std.proofs.Common.{◌∙◌, sym, ap, arith}
use Rattle.lp_base.proofs.Machine.{again}
use Rattle.cert_text.specs.Reading.{factor}
use Rattle.cert_text.proofs.Caps.{factor_ok}
use Rattle.cert_text.proofs.words.parse_factor.Goals as goal

pub returns-clause-value : goal.returns-clause-value
returns-clause-value c = c.factor.ensures.value ∙ ap factor (again c.in_ok-number.number (omega (arith, c.in_ok-number.ensures.small))) ∙ sym (factor_ok c.args.word.now _ c.in_ok-number.ensures.value)
