use Rattle.cert_write.proofs.Pushes.{three, on_ok, line_is, choices_text}
use Rattle.std.specs.Prelude.{codes}
use Rattle.std.proofs.Common.{[], ◌∷◌, ◌++◌, ◌∙◌, ap, map}
use Rattle.cert_text.specs.Spelling.{choice_word}
use Rattle.cert_write.proofs.write.push_piece.Goals as goal

pub returns : goal.returns
returns c =
    on_ok c.push_bytes-2.result _ _
    (three c.args.out.now.items c.push_bytes.new.out.items c.push_choices.new.out.items c.push_bytes-2.new.out.items
    (codes "piece") (choices_text c.args.piece.now) (10 ∷ []) _
    c.in_ok-push_bytes.ensures (c.in_ok-push_choices.ensures ∙ ap (λ cs. c.push_bytes.new.out.items ++ choices_text cs) c.choices.ensures.list) (line_is (codes "piece") (map choice_word c.args.piece.now))) c.push_bytes-2.ensures
