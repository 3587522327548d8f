use Rattle.cert_write.proofs.Pushes.{three, on_ok, derived_is, hints_text}
use Rattle.std.specs.Prelude.{codes}
use Rattle.std.proofs.Common.{[], ◌∷◌, ◌++◌, map}
use Rattle.cert_text.specs.Spelling.{choice_word, colon, hint_word}
use Rattle.cert_write.specs.Writing.{spaced}
use Rattle.cert_write.proofs.write.push_derived.Goals as goal

pub returns : goal.returns
returns c =
    on_ok c.push_bytes.result _ _
    (three c.args.out.now.items c.push_front.new.out.items c.push_hints.new.out.items c.push_bytes.new.out.items
    (codes "d" ++ spaced (map choice_word c.args.ng.now ++ colon ∷ [])) (hints_text c.args.hints.now) (10 ∷ []) _
    c.in_ok-push_front.ensures c.in_ok-push_hints.ensures (derived_is (codes "d") (map choice_word c.args.ng.now) (map hint_word c.args.hints.now))) c.push_bytes.ensures
