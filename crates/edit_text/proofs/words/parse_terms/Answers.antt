use Rattle.std.proofs.Common.{rules}
use Rattle.lp_base.proofs.Machine.{narrow_again}
use Rattle.edit_text.proofs.Going.{factor_refused, number_refused, pushed, terms_cut, terms_go_on, terms_stop}
use Rattle.edit_text.proofs.words.parse_terms.Goals as goal

pub returns-in_err-number : goal.returns-in_err-number
returns-in_err-number c = search (rules, number_refused c.loop-word.terms c.loop-word.words c.next.new.self c.in-Some.word.now _ _ c.in-Some.ensures c.in_err-number.ensures.value c.loop-word.invariant)

pub returns-in_default-next : goal.returns-in_default-next
returns-in_default-next c = terms_cut c.loop-word.terms c.loop-word.words c.next.new.self c.in-Some.word.now c.in_ok-number.number _ c.in-Some.ensures c.in_default-next.ensures.0 c.in_ok-number.ensures.value c.loop-word.invariant

pub returns-in_err-factor : goal.returns-in_err-factor
returns-in_err-factor c =
    search (rules, factor_refused c.loop-word.terms c.loop-word.words c.next.new.self c.in-Some.word.now c.in-Some-next.word.now c.next-in-Some.new.self c.in_ok-number.number _ _ c.in-Some.ensures c.in-Some-next.ensures c.in_ok-number.ensures.value c.in_err-factor.ensures.value c.loop-word.invariant)

pub loop-word-preserved : goal.loop-word-preserved
loop-word-preserved c =
    terms_go_on c.loop-word.terms c.loop-word.words c.next.new.self c.in-Some.word.now c.in-Some-next.word.now c.next-in-Some.new.self c.in_ok-number.number c.in_ok-factor.factor c.push.new.self _
    c.in-Some.ensures c.in-Some-next.ensures c.in_ok-number.ensures.value c.in_ok-factor.ensures.value
    (pushed c.loop-word.terms c.push.new.self c.in_ok-number.number c.in_ok-factor.factor _ _ c.in_ok-push.ensures.ok (narrow_again c.in_ok-number.number c.in_ok-number.ensures.narrow) (narrow_again c.in_ok-factor.factor c.in_ok-factor.ensures.narrow)) c.loop-word.invariant

pub returns : goal.returns
returns c = terms_stop c.loop-word.terms c.loop-word.words _ c.in_default.ensures.0 c.loop-word.invariant
