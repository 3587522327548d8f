use Rattle.std.proofs.Common.{map, string_bytes}
use Rattle.lpcc_run.specs.Commands.{by_one_worker}
use Rattle.lpcc_run.proofs.Founds.{found_one}
use Rattle.lpcc_run.proofs.Statuses.{answers_to_command, answers_without_memory}
use Rattle.lpcc_run.proofs.running.run_alone.Goals as goal

pub returns-in-Ok-Some-clause-answers : goal.returns-in-Ok-Some-clause-answers
returns-in-Ok-Some-clause-answers g c =
    let words = map string_bytes c.args.words.now in
    let is = found_one words c.in-Ok-Some.field-0 c.in-Ok-Some.command c.in-Ok-Some.field-0-is c.in-Ok-Some.ensures in
    answers_to_command by_one_worker words c.in-Ok-Some.command _ _ _ _ _ _ _ _ c.a_status_tells_the_answer.ensures.not_two is c.run_command.ensures.answered

pub returns-in-Err-clause-answers : goal.returns-in-Err-clause-answers
returns-in-Err-clause-answers g c = answers_without_memory by_one_worker (map string_bytes c.args.words.now) _ _ _ _ _ _ _ c.give_no_memory.ensures
