use Rattle.std.proofs.Common.{[], ◌∷◌, ◌++◌}
use Rattle.std.specs.Prelude.{codes, flat_map}
use Rattle.cert_text.specs.Spelling.{term_words}
use Rattle.cert_write.specs.Writing.{spaced}
use Rattle.cert_write.proofs.Pushes.{two, on_ok}
use Rattle.cert2_write.proofs.Pushes2.{shared_is}
use Rattle.cert2_write.proofs.write2.push_shared.Goals as goal

pub returns : goal.returns
returns c =
    on_ok c.push_last_terms.result _ _
    (two c.args.out.now.items c.push_bytes.new.out.items c.push_last_terms.new.out.items
    (codes "m :") (spaced (flat_map term_words c.args.terms.now) ++ 10 ∷ []) _
    c.in_ok-push_bytes.ensures (shared_is c.args.terms.now)) c.push_last_terms.ensures
