use Rattle.std.proofs.Common.{[], ◌∷◌}
use Rattle.std.specs.Prelude.{codes}
use Rattle.cert_write.proofs.Pushes.{three, on_ok}
use Rattle.cert2_write.proofs.Pushes2.{kind_is}
use Rattle.cert2_write.proofs.write2.push_kind.Goals as goal

pub returns : goal.returns
returns c =
    on_ok c.push_bytes-3.result _ _
    (three c.args.out.now.items c.push_bytes.new.out.items c.push_bytes-2.new.out.items c.push_bytes-3.new.out.items
    (codes "lpcc-certificate 2\n") c.args.kind.now (10 ∷ []) _
    c.in_ok-push_bytes.ensures c.in_ok-push_bytes-2.ensures (kind_is c.args.kind.now)) c.push_bytes-3.ensures
