use Rattle.std.proofs.Common.{refl, inr}
use Rattle.command.specs.declared.refusal.Refusal.TheVariants.{NoMemory}
use Rattle.verifier.specs.declared.answer.Answer.TheVariants.{Refused}
use Rattle.verifier.proofs.running.give_answer.Goals as goal

pub returns-in-Err : goal.returns-in-Err
returns-in-Err g c = (Refused NoMemory, inr refl, c.give_no_memory.ensures)
