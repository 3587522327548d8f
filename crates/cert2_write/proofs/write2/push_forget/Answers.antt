use Rattle.std.proofs.Common.{[], ◌∷◌, ◌++◌}
use Rattle.std.specs.Prelude.{codes}
use Rattle.cert_write.proofs.Pushes.{three, on_ok, hints_text}
use Rattle.cert2_write.proofs.Pushes2.{forget_is}
use Rattle.cert2_write.proofs.write2.push_forget.Goals as goal

pub returns : goal.returns
returns c =
    on_ok c.push_bytes-2.result _ _
    (three c.args.out.now.items c.push_bytes.new.out.items c.push_hints.new.out.items c.push_bytes-2.new.out.items
    (codes "x") (hints_text c.args.lines.now) (10 ∷ []) _
    c.in_ok-push_bytes.ensures c.in_ok-push_hints.ensures (forget_is c.args.lines.now)) c.push_bytes-2.ensures
