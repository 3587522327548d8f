use Rattle.cert_write.proofs.Pushes.{two, on_ok, ray_is}
use Rattle.std.specs.Prelude.{codes, flat_map}
use Rattle.std.proofs.Common.{[], ◌∷◌, ◌++◌}
use Rattle.cert_text.specs.Spelling.{term_words}
use Rattle.cert_write.specs.Writing.{spaced}
use Rattle.cert_write.proofs.write.push_ray.Goals as goal

pub returns : goal.returns
returns c =
    on_ok c.push_last_terms.result _ _
    (two c.args.out.now.items c.push_bytes.new.out.items c.push_last_terms.new.out.items
    (codes "ray :") (spaced (flat_map term_words c.args.ray.now) ++ 10 ∷ []) _
    c.in_ok-push_bytes.ensures (ray_is (flat_map term_words c.args.ray.now))) c.push_last_terms.ensures
