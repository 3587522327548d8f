use Rattle.std.proofs.Common.{sym, ◌∙◌}
use Rattle.std.proofs.lemmas.Bool.{both_ways}
use Rattle.cert_check.proofs.Forms.{lines_name}
use Rattle.cert_check.proofs.line.hints_pass.Goals as goal

pub closes-requires-clause-few_earlier_pairs : goal.closes-requires-clause-few_earlier_pairs
closes-requires-clause-few_earlier_pairs c = lines_name c.args.before.now c.requires.form_before

pub returns-then-names_pairs : goal.returns-then-names_pairs
returns-then-names_pairs c =
    (λ yes. (rw c.choices.ensures.list at (c.names_pairs.ensures.0 c.if-names_pairs.true), sym c.closes.ensures ∙ yes), λ h. c.closes.ensures ∙ h.1)

pub returns-else-names_pairs : goal.returns-else-names_pairs
returns-else-names_pairs c = (λ yes. absurd (both_ways c.names_pairs.result c.if-names_pairs.false yes), λ h. c.names_pairs.ensures.1 (rw c.choices.ensures.list h.0))
