use Rattle.std.proofs.Common.{[], ◌∷◌, ◌++◌, ◌∙◌, ap, rules}
use Rattle.std.proofs.lemmas.Int.{to_z-of_z}
use mir.Syntax.{w128}
use Rattle.std.specs.Prelude.{codes}
use Rattle.cert_text.specs.Spelling.{point_words, value_words}
use Rattle.cert_write.specs.Writing.{text_line, text_lines}
use Rattle.cert_write.proofs.Pushes.{four, on_ok}
use Rattle.cert2_text.specs.Spelling2.{head2_words, log2_words}
use Rattle.cert2_write.proofs.Pushes2.{optimal_is}
use Rattle.cert2_write.proofs.write2.push_optimal.Goals as goal

pub returns : goal.returns
returns c =
    on_ok c.push_log.result _ _
    (four c.args.out.now.items c.push_kind.new.out.items c.push_point.new.out.items c.push_value.new.out.items c.push_log.new.out.items
    (text_lines (head2_words ∷ (codes "optimal" ∷ []) ∷ [])) (text_line (point_words c.args.point.now)) (text_line (value_words c.args.z)) (text_lines (log2_words c.args.lines.now)) _
    c.in_ok-push_kind.ensures c.in_ok-push_point.ensures (c.in_ok-push_value.ensures ∙ ap (λ z. c.push_point.new.out.items ++ text_line (value_words z)) (to_z-of_z w128 c.args.z (search rules))) (optimal_is c.args.point.now c.args.z c.args.lines.now)) c.push_log.ensures
