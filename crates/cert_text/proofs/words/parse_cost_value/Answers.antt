use Rattle.std.proofs.Common.{◌∙◌, sym, ap, arith}
use Rattle.lp_base.proofs.Machine.{again}
use Rattle.cert_text.specs.Reading.{cost_value}
use Rattle.cert_text.proofs.Caps.{cost_value_ok}
use Rattle.cert_text.proofs.words.parse_cost_value.Goals as goal

pub returns : goal.returns
returns c = c.cost_value.ensures ∙ ap cost_value (again c.in_ok-number.number (omega (arith, c.in_ok-number.ensures.small))) ∙ sym (cost_value_ok c.args.word.now _ c.in_ok-number.ensures.value)
