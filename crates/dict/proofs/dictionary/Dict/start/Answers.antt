use Rattle.std.proofs.Common.{ℕ, List, [], ◌∷◌, ◌++◌, ◌≡◌, ◌∙◌, sym, ap, subst, length, map}
use Rattle.std.specs.List.{range_with_len}
use Rattle.lpcc_case.specs.declared.constraint.Constraint.{Constraint}
use Rattle.lpcc_case.specs.declared.form.Form.TheVariants.{Col, Con, Cost}
use Rattle.dict.specs.Dictionaries.{Dictionary, IsDictionary}
use Rattle.dict.specs.Forms.{IsDictionaryOf, start_of}
use Rattle.dict.proofs.Starts.{start_is_dictionary, start_of_case, start_made}
use Rattle.dict.proofs.dictionary.Dict.start.Goals as goal

pub of_parts-requires : goal.of_parts-requires
of_parts-requires c =
    let basic : c.in_ok-basic.basic.items ≡ (start_of c.args.case.now).basic = c.in_ok-basic.ensures ∙ ap (λ (cs : List Constraint). map Con (range_with_len 0 (length cs)) ++ Cost ∷ []) c.constraints.ensures.list in
    let nonbasic : c.in_ok-nonbasic.nonbasic.items ≡ (start_of c.args.case.now).nonbasic = c.in_ok-nonbasic.ensures ∙ ap (λ (n : ℕ). map Col (range_with_len 0 n)) c.columns.ensures in
    let made = start_made c.args.case.now c.in_ok-rows.rows.items c.in_ok-basic.basic.items c.in_ok-nonbasic.nonbasic.items c.in_ok-rows.ensures basic nonbasic in
    subst (λ (n : ℕ). IsDictionary n (record { rows = c.in_ok-rows.rows.items; basic = c.in_ok-basic.basic.items; nonbasic = c.in_ok-nonbasic.nonbasic.items })) (sym c.columns-2.ensures)
    (subst (λ (d : Dictionary). IsDictionary c.args.case.now.columns d) (sym made) (start_is_dictionary c.args.case.now c.constraints.ensures.kept))

pub returns-clause-of : goal.returns-clause-of
returns-clause-of c =
    let basic : c.in_ok-basic.basic.items ≡ (start_of c.args.case.now).basic = c.in_ok-basic.ensures ∙ ap (λ (cs : List Constraint). map Con (range_with_len 0 (length cs)) ++ Cost ∷ []) c.constraints.ensures.list in
    let nonbasic : c.in_ok-nonbasic.nonbasic.items ≡ (start_of c.args.case.now).nonbasic = c.in_ok-nonbasic.ensures ∙ ap (λ (n : ℕ). map Col (range_with_len 0 n)) c.columns.ensures in
    let made = start_made c.args.case.now c.in_ok-rows.rows.items c.in_ok-basic.basic.items c.in_ok-nonbasic.nonbasic.items c.in_ok-rows.ensures basic nonbasic in
    subst (λ (d : Dictionary). IsDictionaryOf c.args.case.now d) (sym (c.of_parts.ensures ∙ made)) (start_of_case c.args.case.now c.constraints.ensures.kept)
