use Rattle.cert_write.proofs.Pushes.{four, on_ok, point_cut_is}
use Rattle.lp_base.proofs.Machine.{again_64}
use Rattle.std.specs.Prelude.{codes, flat_map}
use Rattle.std.specs.Fmt.{signed_decimal}
use Rattle.std.proofs.Common.{[], ◌∷◌, ◌++◌, ◌∙◌, ap, map, rules}
use Rattle.cert_text.specs.Spelling.{choice_word, colon, term_words}
use Rattle.cert_write.specs.Writing.{spaced}
use Rattle.cert_write.proofs.write.push_point_cut.Goals as goal

pub returns : goal.returns
returns c =
    on_ok c.push_last_terms.result _ _
    (four c.args.out.now.items c.push_front.new.out.items c.push_bytes.new.out.items c.push_bound.new.out.items c.push_last_terms.new.out.items
    (codes "p" ++ spaced (map choice_word c.args.ng.now ++ colon ∷ [])) (codes " ") (signed_decimal c.args.e ++ spaced (colon ∷ [])) (spaced (flat_map term_words c.args.terms.now) ++ 10 ∷ []) _
    c.in_ok-push_front.ensures c.in_ok-push_bytes.ensures (c.in_ok-push_bound.ensures ∙ ap (λ z. c.push_bytes.new.out.items ++ (signed_decimal z ++ spaced (colon ∷ []))) (again_64 c.args.e (search rules))) (point_cut_is (codes "p") (map choice_word c.args.ng.now) (signed_decimal c.args.e) (flat_map term_words c.args.terms.now))) c.push_last_terms.ensures
