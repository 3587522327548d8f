use Rattle.std.proofs.Common.{◌∙◌, sym}
use Rattle.edit_text.proofs.Narrow.{narrow_factor, narrow_zero}
use Rattle.edit_text.proofs.words.parse_narrow.Goals as goal

pub returns-then-is_zero-clause-value : goal.returns-then-is_zero-clause-value
returns-then-is_zero-clause-value c = sym (narrow_zero c.args.word.now (sym c.if-is_zero.ensures))

pub returns-clause-value : goal.returns-clause-value
returns-clause-value c = c.parse_factor.ensures.value ∙ narrow_factor c.args.word.now (sym c.if-is_zero.ensures)
