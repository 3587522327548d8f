use Rattle.cert_write.proofs.Pushes.{two, on_ok, infeasible_is}
use Rattle.std.specs.Prelude.{codes}
use Rattle.std.proofs.Common.{[], ◌∷◌}
use Rattle.cert_text.specs.Spelling.{head_words, log_words}
use Rattle.cert_write.specs.Writing.{text_lines}
use Rattle.cert_write.proofs.write.push_infeasible.Goals as goal

pub returns : goal.returns
returns c =
    on_ok c.push_log.result _ _
    (two c.args.out.now.items c.push_kind.new.out.items c.push_log.new.out.items
    (text_lines (head_words ∷ (codes "infeasible" ∷ []) ∷ [])) (text_lines (log_words c.args.lines.now)) _
    c.in_ok-push_kind.ensures (infeasible_is c.args.lines.now)) c.push_log.ensures
