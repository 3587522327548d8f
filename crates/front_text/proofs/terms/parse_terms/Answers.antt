use Rattle.std.proofs.Common.{◌++◌, [], ◌∷◌, ap, ◌∙◌, rules, arith}
use Rattle.lp_base.proofs.Machine.{again}
use Rattle.front_text.proofs.Going.{number_refused, terms_cut, factor_refused, terms_go_on, terms_stop}
use Rattle.front_text.proofs.terms.parse_terms.Goals as goal

pub returns-in_err-number : goal.returns-in_err-number
returns-in_err-number c = search (rules, number_refused c.loop-next.terms c.loop-next.next c.loop-next.words c.next.new.self c.in-Some.word.now _ _ c.in-Some.ensures c.in_err-number.ensures.number c.loop-next.invariant)

pub returns-in_default-next : goal.returns-in_default-next
returns-in_default-next c = terms_cut c.loop-next.terms c.loop-next.next c.loop-next.words c.next.new.self c.in-Some.word.now c.in_ok-number.number _ c.in-Some.ensures c.in_default-next.ensures.0 c.in_ok-number.ensures.number c.loop-next.invariant

pub returns-in_err-factor : goal.returns-in_err-factor
returns-in_err-factor c =
    search (rules, factor_refused c.loop-next.terms c.loop-next.next c.loop-next.words c.next.new.self c.in-Some.word.now c.in-Some-next.word.now c.next-in-Some.new.self c.in_ok-number.number _ _ c.in-Some.ensures c.in-Some-next.ensures c.in_ok-number.ensures.number c.in_err-factor.ensures.value c.loop-next.invariant)

pub loop-next-preserved : goal.loop-next-preserved
loop-next-preserved c =
    terms_go_on c.loop-next.terms c.loop-next.next c.loop-next.words c.next.new.self c.in-Some.word.now c.in-Some-next.word.now c.next-in-Some.new.self c.in_ok-number.number c.in_ok-factor.factor c.push.new.self _
    c.in-Some.ensures c.in-Some-next.ensures c.in_ok-number.ensures.number c.in_ok-factor.ensures.value (c.in_ok-push.ensures.ok ∙ ap (λ z. c.loop-next.terms ++ (c.in_ok-number.number, z) ∷ []) (again c.in_ok-factor.factor (omega (arith, c.in_ok-factor.ensures.small)))) c.loop-next.invariant

pub returns : goal.returns
returns c = terms_stop c.loop-next.terms c.loop-next.next c.loop-next.words _ c.in_default.ensures.0 c.loop-next.invariant
