use Rattle.std.proofs.Common.{◌∙◌}
use Rattle.std.proofs.lemmas.Bool.{ne_eqb}
use Rattle.mps_lex.proofs.Passing.{passed_others}
use Rattle.mps_lex.proofs.kinds.is_passed_content.Goals as goal

pub returns-else-first-eq42 : goal.returns-else-first-eq42
returns-else-first-eq42 c = c.is_all_blank.ensures ∙ passed_others c.args.text.now _ c.in-len1-up.len_at_least (ne_eqb _ _ c.if-first-eq42.false)
