use Rattle.std.proofs.Common.{◌++◌, [], ◌∷◌, ap, ◌∙◌, rules}
use Rattle.std.proofs.lemmas.Int.{fits_signed_from_abs}
use Rattle.lp_base.proofs.Machine.{again_64}
use mir.Syntax.{w64}
use Rattle.cert_text.proofs.Going.{number_refused, terms_cut, factor_refused, terms_go_on, terms_stop}
use Rattle.cert_text.proofs.lists.parse_each_term.Goals as goal

pub returns-in_err-number : goal.returns-in_err-number
returns-in_err-number c = search (rules, number_refused c.loop-word.terms c.loop-word.least c.loop-word.words c.next.new.self c.in-Some.word.now _ _ c.in-Some.ensures c.in_err-number.ensures.number c.loop-word.invariant)

pub returns-in_default-next : goal.returns-in_default-next
returns-in_default-next c = terms_cut c.loop-word.terms c.loop-word.least c.loop-word.words c.next.new.self c.in-Some.word.now c.in_ok-number.number _ c.in-Some.ensures c.in_default-next.ensures.0 c.in_ok-number.ensures.number c.loop-word.invariant

pub returns-in_err-factor : goal.returns-in_err-factor
returns-in_err-factor c =
    search (rules, factor_refused c.loop-word.terms c.loop-word.least c.loop-word.words c.next.new.self c.in-Some.word.now c.in-Some-next.word.now c.next-in-Some.new.self c.in_ok-number.number _ _ c.in-Some.ensures c.in-Some-next.ensures c.in_ok-number.ensures.number c.in_err-factor.ensures.value c.loop-word.invariant)

pub loop-word-preserved : goal.loop-word-preserved
loop-word-preserved c =
    terms_go_on c.loop-word.terms c.loop-word.least c.loop-word.words c.next.new.self c.in-Some.word.now c.in-Some-next.word.now c.next-in-Some.new.self c.in_ok-number.number c.in_ok-factor.factor c.push.new.self _
    c.in-Some.ensures c.in-Some-next.ensures c.in_ok-number.ensures.number c.in_ok-factor.ensures.value (c.in_ok-push.ensures.ok ∙ ap (λ z. c.loop-word.terms ++ (c.in_ok-number.number, z) ∷ []) (again_64 c.in_ok-factor.factor (fits_signed_from_abs w64 c.in_ok-factor.factor c.in_ok-factor.ensures.narrow))) c.loop-word.invariant

pub returns : goal.returns
returns c = terms_stop c.loop-word.terms c.loop-word.least c.loop-word.words _ c.in_default.ensures.0 c.loop-word.invariant
