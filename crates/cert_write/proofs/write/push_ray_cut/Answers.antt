use Rattle.cert_write.proofs.Pushes.{two, on_ok, ray_cut_is}
use Rattle.std.specs.Prelude.{codes, flat_map}
use Rattle.std.proofs.Common.{[], ◌∷◌, ◌++◌, map}
use Rattle.cert_text.specs.Spelling.{choice_word, colon, term_words}
use Rattle.cert_write.specs.Writing.{spaced}
use Rattle.cert_write.proofs.write.push_ray_cut.Goals as goal

pub returns : goal.returns
returns c =
    on_ok c.push_last_terms.result _ _
    (two c.args.out.now.items c.push_front.new.out.items c.push_last_terms.new.out.items
    (codes "i" ++ spaced (map choice_word c.args.ng.now ++ colon ∷ [])) (spaced (flat_map term_words c.args.terms.now) ++ 10 ∷ []) _
    c.in_ok-push_front.ensures (ray_cut_is (codes "i") (map choice_word c.args.ng.now) (flat_map term_words c.args.terms.now))) c.push_last_terms.ensures
