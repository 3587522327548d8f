use Rattle.agreement.proofs.Together.{answered_yes}
use Rattle.agreement.proofs.laws.solutions_are_answered_yes.Goals as goal

pub returns : goal.returns
returns c = λ bytes deck text o style rb rn tb tn wb wn status solved checked read write.
    let told = c.a_status_tells_the_answer.ensures in
    answered_yes c.each_cause_is_answered.ensures.accepted deck text rb rn tb tn wb wn status checked
    (λ four. read (told.read_fault _ _ _ _ _ _ _ _ checked four)) (λ five. write (told.write_fault _ _ _ _ _ _ _ _ checked five))
    (c.solutions_are_accepted.ensures bytes deck text o style solved)
