use Rattle.cert_write.proofs.Pushes.{three, on_ok, front_is, choices_text}
use Rattle.std.specs.Prelude.{codes}
use Rattle.std.proofs.Common.{◌++◌, ap, ◌∙◌}
use Rattle.cert_write.proofs.write.push_front.Goals as goal

pub returns : goal.returns
returns c =
    on_ok c.push_bytes-2.result _ _
    (three c.args.out.now.items c.push_bytes.new.out.items c.push_choices.new.out.items c.push_bytes-2.new.out.items
    c.args.kind.now (choices_text c.args.ng.now) (codes " :") _
    c.in_ok-push_bytes.ensures (c.in_ok-push_choices.ensures ∙ ap (λ cs. c.push_bytes.new.out.items ++ choices_text cs) c.choices.ensures.list) (front_is c.args.kind.now c.args.ng.now)) c.push_bytes-2.ensures
