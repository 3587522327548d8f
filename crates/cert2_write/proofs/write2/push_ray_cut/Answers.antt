use Rattle.std.proofs.Common.{[], ◌∷◌, ◌++◌, map}
use Rattle.std.specs.Prelude.{codes, flat_map}
use Rattle.cert_text.specs.Spelling.{choice_word, colon, term_words}
use Rattle.cert_write.specs.Writing.{spaced}
use Rattle.cert_write.proofs.Pushes.{three, on_ok}
use Rattle.cert2_text.specs.Spelling2.{list_words}
use Rattle.cert2_write.proofs.Pushes2.{ray_is}
use Rattle.cert2_write.proofs.write2.push_ray_cut.Goals as goal

pub returns : goal.returns
returns c =
    on_ok c.push_last_terms.result _ _
    (three c.args.out.now.items c.push_front.new.out.items c.push_list.new.out.items c.push_last_terms.new.out.items
    (codes "i" ++ spaced (map choice_word c.args.ng.now ++ colon ∷ [])) (spaced (list_words c.args.list)) (spaced (flat_map term_words c.args.terms.now) ++ 10 ∷ []) _
    c.in_ok-push_front.ensures c.in_ok-push_list.ensures (ray_is (map choice_word c.args.ng.now) c.args.list c.args.terms.now)) c.push_last_terms.ensures
