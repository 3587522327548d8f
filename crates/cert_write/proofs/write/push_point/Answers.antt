use Rattle.cert_write.proofs.Pushes.{three, on_ok, point_is}
use Rattle.lp_base.proofs.Machine.{again_64}
use Rattle.std.specs.Prelude.{codes, flat_map}
use Rattle.std.specs.Fmt.{signed_decimal}
use Rattle.std.proofs.Common.{[], ◌∷◌, ◌++◌, ◌∙◌, ap, rules}
use Rattle.cert_text.specs.Spelling.{colon, term_words}
use Rattle.cert_write.specs.Writing.{spaced}
use Rattle.cert_write.proofs.write.push_point.Goals as goal

pub returns : goal.returns
returns c =
    on_ok c.push_last_terms.result _ _
    (λ p. three c.args.out.now.items c.push_bytes.new.out.items c.push_bound.new.out.items c.push_last_terms.new.out.items
    (codes "point ") (signed_decimal c.args.point.now.d ++ spaced (colon ∷ [])) (spaced (flat_map term_words c.args.point.now.terms) ++ 10 ∷ []) _
    c.in_ok-push_bytes.ensures (c.in_ok-push_bound.ensures ∙ ap (λ z. c.push_bytes.new.out.items ++ (signed_decimal z ++ spaced (colon ∷ []))) (again_64 c.args.point.now.d (search rules))) (point_is (signed_decimal c.args.point.now.d) (flat_map term_words c.args.point.now.terms)) (p ∙ ap (λ ts. c.push_bound.new.out.items ++ (spaced (flat_map term_words ts) ++ 10 ∷ [])) c.as_slice.ensures)) c.push_last_terms.ensures
