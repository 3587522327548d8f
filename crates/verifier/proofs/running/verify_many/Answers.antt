use Rattle.verifier.proofs.Statuses.{checked, says_yes}
use Rattle.verifier.proofs.running.verify_many.Goals as goal

pub returns : goal.returns
returns g c =
    let run = checked _ _ _ _ _ _ _ _ c.answer_many_to-answer.result c.answer_many_to-answer.ensures c.give_answer.ensures in
    record { answered = run; yes = λ zero bytes told. says_yes c.accepted_inputs_are_true.ensures _ _ _ _ _ _ _ _ bytes run told zero }
