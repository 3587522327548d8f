use Rattle.std.proofs.Common.{[], ◌∷◌, ◌++◌, ◌∙◌, ap, map, rules}
use Rattle.std.specs.Prelude.{codes, flat_map}
use Rattle.std.specs.Fmt.{signed_decimal}
use Rattle.lp_base.proofs.Machine.{again_64}
use Rattle.cert_text.specs.Spelling.{choice_word, colon, term_words}
use Rattle.cert_write.specs.Writing.{spaced}
use Rattle.cert_write.proofs.Pushes.{five, on_ok}
use Rattle.cert2_text.specs.Spelling2.{list_words}
use Rattle.cert2_write.proofs.Pushes2.{point_is}
use Rattle.cert2_write.proofs.write2.push_point_cut.Goals as goal

pub returns : goal.returns
returns c =
    on_ok c.push_last_terms.result _ _
    (five c.args.out.now.items c.push_front.new.out.items c.push_bytes.new.out.items c.push_bound.new.out.items c.push_list.new.out.items c.push_last_terms.new.out.items
    (codes "p" ++ spaced (map choice_word c.args.ng.now ++ colon ∷ [])) (codes " ") (signed_decimal c.args.e ++ spaced (colon ∷ [])) (spaced (list_words c.args.list)) (spaced (flat_map term_words c.args.terms.now) ++ 10 ∷ []) _
    c.in_ok-push_front.ensures c.in_ok-push_bytes.ensures (c.in_ok-push_bound.ensures ∙ ap (λ z. c.push_bytes.new.out.items ++ (signed_decimal z ++ spaced (colon ∷ []))) (again_64 c.args.e (search rules)))
    c.in_ok-push_list.ensures (point_is (map choice_word c.args.ng.now) (signed_decimal c.args.e) c.args.list c.args.terms.now)) c.push_last_terms.ensures
