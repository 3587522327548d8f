use Rattle.std.proofs.Common.{[], ◌∷◌}
use Rattle.std.specs.Prelude.{codes}
use Rattle.cert_write.specs.Writing.{text_lines}
use Rattle.cert_write.proofs.Pushes.{two, on_ok}
use Rattle.cert2_text.specs.Spelling2.{head2_words, log2_words}
use Rattle.cert2_write.proofs.Pushes2.{infeasible_is}
use Rattle.cert2_write.proofs.write2.push_infeasible.Goals as goal

pub returns : goal.returns
returns c =
    on_ok c.push_log.result _ _
    (two c.args.out.now.items c.push_kind.new.out.items c.push_log.new.out.items
    (text_lines (head2_words ∷ (codes "infeasible" ∷ []) ∷ [])) (text_lines (log2_words c.args.lines.now)) _
    c.in_ok-push_kind.ensures (infeasible_is c.args.lines.now)) c.push_log.ensures
